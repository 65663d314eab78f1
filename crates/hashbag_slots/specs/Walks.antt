-- What a walk over the tags and cells of two tables, a newer and an older one, still gives.
use Rattle.std.specs.Prelude.{◌≡◌, ◌≢◌, ℕ, ◌+◌, ◌-◌, ◌/◌, ◌%◌, ◌^◌, ◌<◌, ◌≤◌, List, [], ◌∷◌, ◌++◌, Option, drop, length, map, if◌then◌else◌, nat_le, nat_eq}
use Rattle.std.proofs.Common.{zero, suc}
use Rattle.std.specs.List.{filter, filter_map}
use Rattle.hashbag_slots.specs.declared.live.Course.{Course}
use Rattle.hashbag_slots.specs.Cells.{cell_at}
use Rattle.hashbag_slots.specs.Columns.{Agree, tag_at}
use Rattle.hashbag_slots.specs.Group.{IsMaskOf, IsMaskFrom}

-- the pass in which a walk comes to a place. A pass has every third block of 256 slots
abbrev pub pass_of : ℕ → ℕ
pass_of p = p / 256 % 3

-- `newer` in odd turns, `older` in even ones. A turn is one pass over one table: a walk has six, numbered 5 to 0
abbrev pub of_turn : {X : Type 0} → ℕ → X → X → X
of_turn turn newer older = if nat_eq (turn % 2) 1 then newer else older

-- the places of the Live tags in this list, which begins at the place p
abbrev pub live_places : ℕ → List ℕ → List ℕ
live_places p [] = []
live_places p (t ∷ ts) = if nat_le 128 t then p ∷ live_places (suc p) ts else live_places (suc p) ts

-- the Live places from the place `from` on
abbrev pub live_places_from : ℕ → List ℕ → List ℕ
live_places_from from ts = live_places from (drop from ts)

-- the places of this list that are of the pass
abbrev pub in_pass : ℕ → List ℕ → List ℕ
in_pass pass ps = filter (λ p. nat_eq (pass_of p) pass) ps

-- the Live places from the place `from` on that a turn gives, each with the turn. The pass of a turn is turn / 2
abbrev pub turn_places : ℕ → ℕ → List ℕ → List ℕ → List (ℕ × ℕ)
turn_places turn from newer older = map (λ p. (turn, p)) (in_pass (turn / 2) (live_places_from from (of_turn turn newer older)))

-- the Live places of the last n turns, each with its turn
abbrev pub turns : ℕ → List ℕ → List ℕ → List (ℕ × ℕ)
turns zero newer older = []
turns (suc turn) newer older = turn_places turn 0 newer older ++ turns turn newer older

-- the Live places that a walk still gives, each with its turn: the places of this turn from `next` on, and then the places of the later turns
abbrev pub places_left : ℕ → ℕ → List ℕ → List ℕ → List (ℕ × ℕ)
places_left turn next newer older = turn_places turn next newer older ++ turns turn newer older

-- no slot of the pass is Live from the place `from` on
abbrev pub NoneLive : List ℕ → ℕ → ℕ → Type 0
NoneLive ts pass from = (p : ℕ) → from ≤ p → pass_of p ≡ pass → tag_at ts p < 128

-- group.0 is the first place of the next 16 slots of the pass, from the place `from` on, of which one or more are Live. group.1 has a bit for each
-- of the 16: whether the slot is Live
pub record IsNextGroup (ts : List ℕ) (pass from : ℕ) (group : ℕ × ℕ) : Type 0 where
  pub after : from ≤ group.0
  pub sixteen : group.0 % 16 ≡ 0
  pub within : group.0 + 16 ≤ length ts
  pub fits : group.0 + 16 < 2 ^ 64
  pub on_pass : pass_of group.0 ≡ pass
  pub some : 0 < group.1
  pub mask : IsMaskOf (λ p. nat_le 128 (tag_at ts p)) group.0 (group.0 + 16) group.1
  pub none : (p : ℕ) → from ≤ p → p < group.0 → pass_of p ≡ pass → tag_at ts p < 128

-- a course has a bit in `ahead` for each of the 16 slots that end before `until`, all of them of its pass: the bit is set if the slot is Live and
-- isn't before `next`. If no block ends at `until`, the slots after it are of the same pass
pub record IsCourse (newer older : List ℕ) (c : Course) : Type 0 where
  pub mask : IsMaskFrom (λ p. nat_le 128 (tag_at (of_turn c.turn newer older) p)) (c.until - 16) c.next c.until c.ahead
  pub whole : 0 < c.ahead → 16 ≤ c.until
  pub from : c.next ≤ c.until
  pub near : c.until ≤ c.next + 16
  pub within : c.until ≤ length (of_turn c.turn newer older)
  pub sixteen : c.until % 16 ≡ 0
  pub on_pass : (p : ℕ) → c.next ≤ p → p < c.until → pass_of p ≡ c.turn / 2
  pub goes_on : c.until % 256 ≢ 0 → pass_of c.until ≡ c.turn / 2

-- a walk has come to the place `next` of this turn. The first place that it still gives is `place`, and after that place its course is c
pub record IsNextOn (newer older : List ℕ) (turn next place : ℕ) (c : Course) : Type 0 where
  pub within : place < length (of_turn c.turn newer older)
  pub live : 128 ≤ tag_at (of_turn c.turn newer older) place
  pub on_pass : pass_of place ≡ c.turn / 2
  pub after : c.next ≡ place + 1
  pub first : places_left turn next newer older ≡ (c.turn, place) ∷ places_left c.turn c.next newer older
  pub course : IsCourse newer older c

-- the course of a new walk: three turns of each table
abbrev pub first_course : Course
first_course = record { turn = 5; next = 0; ahead = 0; until = 0 }

module _ {T : Type 0} where
  -- the entry at a place of a turn's table
  abbrev pub entry_at_turn : List (Option (T × ℕ)) → List (Option (T × ℕ)) → ℕ × ℕ → Option (T × ℕ)
  entry_at_turn newer older x = cell_at (of_turn x.0 newer older) x.1

  -- the entries left to a walk whose tables have the tags ts and us and the cells cs and ds
  abbrev pub entries_left : ℕ → ℕ → List ℕ → List ℕ → List (Option (T × ℕ)) → List (Option (T × ℕ)) → List (T × ℕ)
  entries_left turn next ts us cs ds = filter_map (entry_at_turn cs ds) (places_left turn next ts us)

  -- the invariant of a walk in this turn at `next`, which has `left` entries left
  pub record IsWalk (ts us : List ℕ) (cs ds : List (Option (T × ℕ))) (turn next left : ℕ) : Type 0 where
    pub agree : Agree ts cs
    pub older_agree : Agree us ds
    pub sixteens : length ts % 16 ≡ 0
    pub older_sixteens : length us % 16 ≡ 0
    pub count : left ≡ length (entries_left turn next ts us cs ds)
