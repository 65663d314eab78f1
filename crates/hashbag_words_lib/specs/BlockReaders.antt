-- What a reader of blocks has read.
use Rattle.std.specs.Prelude.{ℕ, List, map, take, Option, option_map}
use Rattle.std.specs.Borrow.{Bor}
use Rattle.hashbag_words_lib.specs.Inputs.{ReadsBlock}
use Rattle.hashbag_words_lib.specs.declared.block_reader.BlockReader.{BlockReader}
use Rattle.hashbag_words_lib.specs.declared.block_reader.OpenInput.{OpenInput}

-- the name and all bytes of each input that was read to its end, in order
abbrev pub ended_in : {F : Type 0} → BlockReader F → List (List ℕ × List ℕ)
ended_in reader = map (λ (input : Bor (List ℕ) × List ℕ). (input.0.now, input.1)) reader.ended

-- the name of the input that is open, and the bytes that were read of it so far
abbrev pub begun_in : {F : Type 0} → BlockReader F → Option (List ℕ × List ℕ)
begun_in reader = option_map (λ input. (input.name.now, input.read)) reader.«open»

-- the block that was read last
abbrev pub last_in : {F : Type 0} → BlockReader F → List ℕ
last_in reader = take reader.n reader.block.items

-- a reader has read one more block
abbrev pub ReadsNext : {F : Type 0} → BlockReader F → BlockReader F → Type 0
ReadsNext old new = ReadsBlock (begun_in old) (ended_in old) (last_in new) (begun_in new) (ended_in new)
