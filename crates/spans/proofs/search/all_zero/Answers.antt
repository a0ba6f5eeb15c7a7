use Rattle.std.proofs.Common.{sym, ap, ◌∙◌, List, ℕ, take_all, arith}
use Rattle.std.specs.Prelude.{eqb}
use Rattle.std.specs.List.{list_all}
use Rattle.spans.specs.Same.{all_zeros}
use Rattle.spans.proofs.search.all_zero.Goals as goal

pub returns : goal.returns
returns c =
    c.loop-b.invariant
    ∙ ap (λ (l : List ℕ). list_all (λ x. eqb x 0) l) (take_all c.loop-b.b-index c.args.p.now (omega arith))
    ∙ sym (all_zeros c.args.p.now)
