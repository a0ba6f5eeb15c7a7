use Rattle.std.proofs.Common.{List, ℕ, length, ◌*◌, ◌/◌, rules, arith, ap, ◌∙◌}
use Rattle.list_laws.specs.Test.{no_false}
use Rattle.list_laws.specs.Least.{Below, least-below}
use Rattle.tfs_mend.specs.Missing.{is_missing}
use Rattle.tfs_mend.specs.Extra.{one_cleared, clear_next, words-taken, length-one}
use Rattle.tfs_mend.proofs.bits.clear_extra.Goals as goal

pub loop-k-init : goal.loop-k-init
loop-k-init c =
    let lacks = is_missing c.args.map.now c.args.owned.now in
    let none : Below lacks (32 * (c.args.n / 32)) = λ k h. no_false (lacks k) (least-below lacks c.args.n k (omega (arith, c.requires.none))) in
    record {
      cleared = c.take_words.ensures ∙ words-taken _ _ (search rules) (c.args.n / 32) (omega arith) (search rules) (λ i. search rules) c.fits-owned none;
      whole = search rules;
    }

pub loop-k-preserved : goal.loop-k-preserved
loop-k-preserved c =
    let owned = c.args.owned.now in
    record {
      cleared = c.clear_one.ensures ∙ ap (λ (m : List ℕ). one_cleared m owned c.loop-k.k) c.loop-k.invariant.cleared ∙ clear_next _ owned c.requires.whole c.loop-k.k (omega arith);
      whole = ap length c.clear_one.ensures ∙ length-one _ owned c.loop-k.k ∙ c.loop-k.invariant.whole;
    }
