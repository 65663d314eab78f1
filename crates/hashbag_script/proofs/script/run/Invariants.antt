use Rattle.std.proofs.Common.{◌≡◌, ◌++◌, ◌+◌, ◌≤◌, List, [], length, vec_len, vec_capacity}
use Rattle.std.specs.Vec.Iter.{into_iter_items, into_iter_len}
use Rattle.hashbag_core.specs.Bag.{Means}
use Rattle.hashbag_core.specs.Held.{AreHeld}
use Rattle.hashbag_script.specs.Script.{run as run_of, limit_left, IsRoomy}
use Rattle.hashbag_script.specs.Turns.{TablesInTurn}
use Rattle.hashbag_script.proofs.RoomLemmas.{IsStillRoomy}
use Rattle.hashbag_script.proofs.BoundLemmas.{IsShaped, IsPaid}
use Rattle.hashbag_script.proofs.script.run.Given as goal

-- what was done so far is a run, and there is room for the other replies
abbrev pub invariant-loop-step : goal.invariant-loop-step
invariant-loop-step g l = record {
  taken : l.yielded ++ into_iter_items l.step-iterator ≡ into_iter_items l.initial.step-iterator;
  long : into_iter_len l.step-iterator ≡ length (into_iter_items l.step-iterator);
  room : vec_len l.replies + into_iter_len l.step-iterator ≤ vec_capacity l.replies;
  replies : (X : List g.row.T.Denot) → Means l.initial.bag X → l.replies.items ≡ l.initial.replies.items ++ (run_of g.T.PartialEq.eq l.initial.bag.most X l.yielded).1;
  means : (X : List g.row.T.Denot) → Means l.initial.bag X → Means l.bag (run_of g.T.PartialEq.eq l.initial.bag.most X l.yielded).0;
  limit : (X : List g.row.T.Denot) → Means l.initial.bag X → l.bag.most ≡ limit_left g.T.PartialEq.eq l.initial.bag.most X l.yielded;
  hasher : l.bag.hasher ≡ l.initial.bag.hasher;
  roomy : (X : List g.row.T.Denot) → Means l.initial.bag X → IsRoomy g.T.PartialEq.eq l.initial.bag.most X (into_iter_items l.initial.step-iterator) l.initial.bag.tables → IsStillRoomy g.T.PartialEq.eq l.initial.bag.most X l.yielded (into_iter_items l.step-iterator) l.initial.bag.tables l.bag.tables;
  held : AreHeld g.T.PartialEq.eq l.bag.items l.bag.tables;
  shaped : IsShaped g.T.PartialEq.eq l.bag.items l.bag.tables;
  paid : l.initial.bag.items ≡ [] → l.initial.bag.tables.newer ≡ [] → IsPaid g.T.PartialEq.eq l.initial.bag.most l.yielded l.initial.bag.tables l.bag.tables;
  turned : (X : List g.row.T.Denot) → Means l.initial.bag X → TablesInTurn g.T.PartialEq.eq l.initial.bag.most X l.yielded l.initial.bag.tables l.bag.tables;
}
