use Rattle.std.proofs.Common.{◌≡◌, nat_eq}
use Rattle.std.specs.List.{list_all}
use Rattle.hashbag_core.specs.Occurrences.{count}
use Rattle.hashbag_core.proofs.bag.equality.HashBagPartialEq.eq.Given as goal

-- the entries that are still to come decide
abbrev pub invariant-loop-value : goal.invariant-loop-value
invariant-loop-value g l =
    list_all (λ e. nat_eq (count g.T.PartialEq.eq e.0 l.other.items) e.1) l.value-iterator
    ≡ list_all (λ e. nat_eq (count g.T.PartialEq.eq e.0 l.other.items) e.1) l.initial.value-iterator
