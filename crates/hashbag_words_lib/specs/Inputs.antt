-- Inputs that are read block by block, decoded and counted.
use Rattle.std.specs.Prelude.{◌≡◌, ℕ, List, [], ◌∷◌, ◌++◌, map, Option, None, Some, ⊤}
use denote.MutBor.{MutBor}
use denote.Triple.Both.{Both}
use Rattle.std.specs.Borrow.{Bor}
use Rattle.hashbag_text.specs.Decoders.{text_from_decoder}
use Rattle.hashbag_text.specs.Encodings.{after_bytes, text_in}
use Rattle.hashbag_text.specs.declared.decoder.Decoder.{Decoder}
use Rattle.hashbag_text.specs.declared.encoding.Encoding.{Encoding}
use Rattle.hashbag_words_lib.specs.Feeding.{AddsFed, CountsTexts, How}
use Rattle.hashbag_words_lib.specs.declared.inputs.Decoding.{Decoding}

-- a `&mut` parameter: what it was before the call, and what it is after it. A clause that names the parameter alone means both
abbrev pub Changed : Type 0 → Type 0
Changed T = Both (MutBor T) (MutBor T)

-- two such parameters are related so: each by what it was and what it is
abbrev pub Across : {A B : Type 0} → (A → A → B → B → Type 0) → Changed A → Changed B → Type 0
Across relation a b = relation a.entry.now a.exit.now b.entry.now b.exit.now

-- ---- reading. An input is its name and its bytes

-- a block of the input that was open was read; if it has no bytes, the input has ended
abbrev pub ReadsBlock : Option (List ℕ × List ℕ) → List (List ℕ × List ℕ) → List ℕ → Option (List ℕ × List ℕ) → List (List ℕ × List ℕ) → Type 0
ReadsBlock None before block begun after = ⊤
ReadsBlock (Some input) before [] begun after = after ≡ before ++ input ∷ []
ReadsBlock (Some input) before (byte ∷ bytes) begun after = (begun ≡ Some (input.0, input.1 ++ byte ∷ bytes)) × (after ≡ before)

-- the same for a reader of inputs: `ended` has the inputs that were read to their ends, `begun` what was read of the open input, and `last` the last
-- block
abbrev pub ReadsNextBlock : {B : Type 0} → (B → List (List ℕ × List ℕ)) → (B → Option (List ℕ × List ℕ)) → (B → List ℕ) → B → B → Type 0
ReadsNextBlock ended begun last old new = ReadsBlock (begun old) (ended old) (last new) (begun new) (ended new)

-- the text of the bytes that a decoder keeps, followed by these bytes, if it can decode them; without a decoder the bytes are the text
abbrev pub text_left : Option Decoder → List ℕ → Option (List ℕ)
text_left None bytes = Some bytes
text_left (Some decoder) bytes = text_from_decoder decoder bytes

-- the decoder turns the block into this text, whatever bytes follow
abbrev pub Decodes : Option Decoder → List ℕ → List ℕ → Option Decoder → Type 0
Decodes old block text new = (bytes : List ℕ) → text_left old (block ++ bytes) ≡ after_bytes text (text_left new bytes)

-- the inputs of these names were read to their ends, in order, and these are their texts. `before` has all inputs that had been
-- read to their ends before these were read, and `after` has them and these
pub record AreRead (encoding : Option Encoding) (names : List (Bor (List ℕ))) (before after : List (List ℕ × List ℕ)) (texts : List (List ℕ)) : Type 0 where
  pub inputs : List (List ℕ × List ℕ)
  pub named : map (λ (input : List ℕ × List ℕ). input.0) inputs ≡ map (λ (name : Bor (List ℕ)). name.now) names
  pub read : after ≡ before ++ inputs
  pub decoded : map (λ (input : List ℕ × List ℕ). text_in encoding input.1) inputs ≡ map (λ (text : List ℕ). Some text) texts

-- ---- counting. `has` says what a counter has, and `ended` which inputs were read to their ends

module _ {C : Type 0} (has : How → C → List (List ℕ) → List ℕ → Type 0) where
  -- the decoder decoded a block, and the counter was fed the text of the block
  pub record FeedsNext (old new : C) (decoder : Option Decoder) (block : List ℕ) (decoder' : Option Decoder) : Type 0 where
    pub text : List ℕ
    pub decodes : Decodes decoder block text decoder'
    pub feeds : AddsFed has old new text

  -- the same for two states of a decoding
  abbrev pub FeedsBlock : C → C → Decoding → List ℕ → Decoding → Type 0
  FeedsBlock old new from block to = FeedsNext old new from.decoder block to.decoder

  module _ {B : Type 0} (ended : B → List (List ℕ × List ℕ)) (encoding : Option Encoding) where
    -- an input was read to its end, and the counter was fed its text
    pub record ReadsInput (name : List ℕ) (inputs inputs' : B) (old new : C) : Type 0 where
      pub bytes : List ℕ
      pub read : ended inputs' ≡ ended inputs ++ (name, bytes) ∷ []
      pub text : List ℕ
      pub decoded : text_in encoding bytes ≡ Some text
      pub feeds : AddsFed has old new text

    -- the inputs of these names were read to their ends, in order, and their texts were counted
    pub record CountsInputs (names : List (Bor (List ℕ))) (inputs inputs' : B) (old new : C) : Type 0 where
      pub texts : List (List ℕ)
      pub read : AreRead encoding names (ended inputs) (ended inputs') texts
      pub counts : CountsTexts has old new texts
