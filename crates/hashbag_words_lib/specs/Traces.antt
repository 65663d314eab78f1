-- The values that a trace stands for.
use Rattle.std.specs.Prelude.{List, [], ◌∷◌, ◌++◌, Option, None, Some}
use Rattle.std.specs.declared.snapshot.Snapshot.{Snapshot}
use Rattle.hashbag_words_lib.specs.declared.trace.Link.{Link, Link', Held-Link-before, None', Some'}

abbrev mutual
  pub values_of : {T : Type 0} → Link T → List T
  values_of (Link' before value) = values_before before ++ value.value ∷ []

  pub values_before : {T : Type 0} → Held-Link-before T → List T
  values_before None' = []
  values_before (Some' s b) = values_of b

abbrev pub values_in : {T : Type 0} → Option (Snapshot (Link T)) → List T
values_in None = []
values_in (Some s) = values_of s.value
