use Rattle.std.specs.Prelude.{[], ◌∷◌}
use Rattle.std.proofs.Common.{arith, ◌∙◌, append_assoc}
use Rattle.tfs_spec.specs.Replays.{decimal}
use Rattle.replay_line.proofs.Digits.{printed}
use Rattle.replay_line.proofs.text.put_number.Goals as goal

pub returns-clause-bytes : goal.returns-clause-bytes
returns-clause-bytes c =
    c.push.ensures.ascii c.requires.ascii
    ∙ rw (c.push_str.ensures.bytes, c.format.ensures.text, printed c.args.n (omega arith)) (append_assoc c.args.line.now.bytes (decimal 20 c.args.n) (c.args.end ∷ []))
