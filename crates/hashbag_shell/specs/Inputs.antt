-- The texts of inputs.
use Rattle.std.specs.Prelude.{◌≡◌, ℕ, List, Option, Some}
use Rattle.hashbag_text.specs.Encodings.{text_in}
use Rattle.hashbag_text.specs.declared.encoding.Encoding.{Encoding}

-- an input was read: `gives` holds of the name `file` and some bytes, and those bytes, decoded, are `text`
pub record IsTextRead (gives : List ℕ → List ℕ → Type 0) (encoding : Option Encoding) (file text : List ℕ) : Type 0 where
  pub bytes : List ℕ
  pub given : gives file bytes
  pub decoded : text_in encoding bytes ≡ Some text
