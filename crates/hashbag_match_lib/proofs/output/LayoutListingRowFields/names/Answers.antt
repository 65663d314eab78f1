use Rattle.std.proofs.Common.{◌++◌, ◌∙◌, ap, append_assoc, map}
use Rattle.hashbag_match_lib.proofs.output.LayoutListingRowFields.names.Goals as goal

-- the names of three parts
pub returns : goal.returns
returns c =
    let keys = map (λ n. n.now) c.args.self.now.keys.now in
    let carried = map (λ n. n.now) c.args.self.now.carried.now in
    let numbers = map (λ n. n.now) c.as_slice.result.now in
    let first = c.in_ok-push_names.ensures ∙ ap (λ l. map (λ n. n.now) l ++ keys) c.new-names.ensures.items in
    c.in_ok-push_names-3.ensures ∙ ap (λ l. l ++ numbers) (c.in_ok-push_names-2.ensures ∙ ap (λ l. l ++ carried) first)
    ∙ append_assoc keys carried numbers ∙ ap (λ l. keys ++ (carried ++ map (λ n. n.now) l)) c.as_slice.ensures
