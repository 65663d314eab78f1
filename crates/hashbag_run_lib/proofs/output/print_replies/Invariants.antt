use Rattle.std.proofs.Common.{◌≡◌, ◌++◌, take}
use Rattle.std.specs.Prelude.{flat_map, string_bytes}
use Rattle.hashbag_run_lib.specs.Lines.{reply_line}
use Rattle.hashbag_run_lib.proofs.output.print_replies.Given as goal

abbrev pub invariant-loop-reply : goal.invariant-loop-reply
invariant-loop-reply l = string_bytes l.text ≡ string_bytes l.initial.text ++ flat_map (reply_line l.bag) (take l.reply-index l.replies.items)
