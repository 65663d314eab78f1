use Rattle.std.proofs.Common.{◌≡◌, ◌+◌, ◌-◌, ◌/◌, List, ℕ, [], Option, Some, None, IfSome, IfNone, sym, subst, ◌∙◌, arith}
use Rattle.std.proofs.lemmas.Bool.{leb-false}
use Rattle.std.specs.Slice.Scan.{IsFirstPlace}
use Rattle.hashbag_slots.specs.Group.{IsMaskOf, from_place_on}
use Rattle.hashbag_slots.specs.declared.live.Course.{Course}
use Rattle.hashbag_slots.specs.Walks.{of_turn, pass_of, places_left, IsNextGroup, IsNextOn}
use Rattle.hashbag_slots.proofs.GroupLemmas.{none_told, tells_fresh}
use Rattle.hashbag_slots.proofs.Walking.{is_fingerprint, same_pass, next_on, next_on_earlier, left_skip}
use Rattle.hashbag_slots.proofs.live.next_on_course.Goals.{Else-ahead-ne0}
use Rattle.hashbag_slots.proofs.live.next_on_course.Goals as goal

pub overflow_sub-until : goal.overflow_sub-until
overflow_sub-until c = c.requires.course.whole (omega arith)

found_earlier : (ns os : List ℕ) (turn next from : ℕ) → places_left turn next ns os ≡ places_left turn from ns os → (r : Option (ℕ × Course)) → IfSome r (λ x. IsNextOn ns os turn from x.0 x.1) → IfSome r (λ x. IsNextOn ns os turn next x.0 x.1)
found_earlier ns os turn next from same None on = tt
found_earlier ns os turn next from same (Some x) on = next_on_earlier ns os turn turn next from x.0 x.1 same on

none_earlier : (ns os : List ℕ) (turn next from : ℕ) → places_left turn next ns os ≡ places_left turn from ns os → (r : Option (ℕ × Course)) → IfNone r (places_left turn from ns os ≡ []) → IfNone r (places_left turn next ns os ≡ [])
none_earlier ns os turn next from same None none = same ∙ none
none_earlier ns os turn next from same (Some x) none = tt

-- no place of the course is left
passed : (c : Else-ahead-ne0) → places_left c.args.course.turn c.args.course.next c.args.newer.now c.args.older.now ≡ places_left c.args.course.turn c.args.course.until c.args.newer.now c.args.older.now
passed c =
    let ns = c.args.newer.now in let os = c.args.older.now in let turn = c.args.course.turn in let next = c.args.course.next in let until = c.args.course.until in
    let course = c.requires.course in let near = course.near in let live = is_fingerprint (of_turn turn ns os) in
    let none = none_told live (until - 16) next until c.args.course.ahead course.mask (omega arith) c.if-ahead-ne0.false in
    left_skip ns os turn next until course.from (λ q a b is. leb-false _ _ (none q a b))

pub returns : goal.returns
returns c =
    let ns = c.args.newer.now in let os = c.args.older.now in let turn = c.args.course.turn in let next = c.args.course.next in let until = c.args.course.until in
    let same = passed (goal.at.returns c).Else-ahead-ne0 in
    record {
      some = found_earlier ns os turn next until same c.next_in_turns.result c.next_in_turns.ensures.some;
      none = none_earlier ns os turn next until same c.next_in_turns.result c.next_in_turns.ensures.none;
    }

pub returns-then-ahead-ne0 : goal.returns-then-ahead-ne0
returns-then-ahead-ne0 c =
    let ns = c.args.newer.now in let os = c.args.older.now in let turn = c.args.course.turn in let next = c.args.course.next in let until = c.args.course.until in
    let course = c.requires.course in let near = course.near in let from = course.from in let within = course.within in let sixteen = course.sixteen in
    let whole = course.whole (omega arith) in
    let live = is_fingerprint (of_turn turn ns os) in let place = c.take_lowest-place.result.0 in let rest = c.take_lowest-place.result.1 in
    let base : ℕ = until - 16 in let up : base + 16 ≡ until = omega arith in
    let e = c.take_lowest-place.ensures in
    let below = e.before_until live next until course.mask in let first = e.first live next until (omega arith) course.mask in let low = first.low in
    let here : pass_of base ≡ turn / 2 = sym (same_pass base place (omega arith) (omega arith) (omega arith)) ∙ course.on_pass place low below in
    record {
      some = subst (λ u. IsNextOn ns os turn next place (record { turn = turn; next = place + 1; ahead = rest; until = u })) up
          (next_on ns os turn next base place rest (omega arith) (omega arith) (omega arith) (omega arith) here (omega arith)
          (subst (λ u. IsFirstPlace live next u place) (sym up) first) (subst (λ u. IsMaskOf (from_place_on live (place + 1)) base u rest) (sym up) (e.rest live next until course.mask)));
      none = tt;
    }

pub overflow_add-course-in-Some : goal.overflow_add-course-in-Some
overflow_add-course-in-Some c =
    let live = is_fingerprint c.tags_of_turn-tags.result.now in let at = c.in-Some.at in
    let b = c.take_lowest-place-in-Some.ensures.before_until live at (at + 16) (tells_fresh live at (at + 16) c.in-Some.ahead c.in-Some.ensures.some.mask) in
    let w = c.in-Some.ensures.some.fits in
    omega arith

pub returns-in-Some : goal.returns-in-Some
returns-in-Some c =
    let ns = c.args.newer.now in let os = c.args.older.now in let turn = c.args.course.turn in let next = c.args.course.next in let until = c.args.course.until in
    let ts = of_turn turn ns os in let at : ℕ = c.in-Some.at in
    let group : IsNextGroup ts (turn / 2) until (at, c.in-Some.ahead) = subst (λ k. IsNextGroup ts k until (at, c.in-Some.ahead)) (c.requires.course.goes_on c.if-until-ne0.true)
    (subst (λ us. IsNextGroup us (pass_of until) until (at, c.in-Some.ahead)) c.tags_of_turn-tags.ensures c.in-Some.ensures.some) in
    let live = is_fingerprint ts in let told = tells_fresh live at (at + 16) c.in-Some.ahead group.mask in
    let e = c.take_lowest-place-in-Some.ensures in
    record {
      some = next_on_earlier ns os turn turn next at c.take_lowest-place-in-Some.result.0 _ (passed (goal.at.returns-in-Some c).Else-ahead-ne0 ∙ left_skip ns os turn until at group.after group.none)
          (next_on ns os turn at at c.take_lowest-place-in-Some.result.0 c.take_lowest-place-in-Some.result.1 group.sixteen (omega arith) (omega arith) group.within group.on_pass
          (e.before_until live at (at + 16) told) (e.first live at (at + 16) (omega arith) told) (e.rest live at (at + 16) told));
      none = tt;
    }
