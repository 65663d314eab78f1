-- The bytes that a tape stands for.
use Rattle.std.specs.Prelude.{ℕ, List, [], ◌++◌, take, Option, None, Some}
use Rattle.std.specs.declared.snapshot.Snapshot.{Snapshot}
use Rattle.hashbag_words_lib.specs.declared.tape.Part.{Part, Part', Held-Part-before, None', Some'}

abbrev mutual
  pub bytes_up_to : Part → List ℕ
  bytes_up_to (Part' before block n) = bytes_before before ++ take n block.value.items

  pub bytes_before : Held-Part-before → List ℕ
  bytes_before None' = []
  bytes_before (Some' s b) = bytes_up_to b

abbrev pub tape_bytes : Option (Snapshot Part) → List ℕ
tape_bytes None = []
tape_bytes (Some s) = bytes_up_to s.value
