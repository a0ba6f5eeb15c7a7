use mathlib.Core.Path.{◌≡◌, sym, ap, ◌∙◌}
use Prim.Native.Nat.{ℕ, ◌+◌, ◌/◌, ◌%◌, ◌^◌}
use native.Mathlib.Omega.{arith}
use lib.Count.{ones, ones-le}
use Rattle.tfs_spec.specs.Layout.{ones_by_words}
use Rattle.tfs_facts.specs.MapOnes.{ones_to, to_none, to-next, by-words-whole, by-words-cut, by-words}
use Rattle.std.proofs.Common.{rules}
use Rattle.tfs_ones.proofs.ones_below.Goals as goal

pub loop-k-init : goal.loop-k-init
loop-k-init c = (sym (to_none c.args.map.now c.args.n), search rules)

pub loop-k-preserved : goal.loop-k-preserved
loop-k-preserved c =
    let counted = ap ones c.be32.ensures in
    (omega (arith, c.loop-k.invariant.0, counted, to-next c.args.map.now (λ i. (c.shared_slice_known-1.given i).fits) c.args.n c.loop-k.k (omega arith)), omega (arith, ones-le 32 c.be32.result (omega arith)))

pub returns-then-left-eq0 : goal.returns-then-left-eq0
returns-then-left-eq0 c =
    let all : c.loop-k.k ≡ c.args.n / 32 = omega arith in
    let sum = c.loop-k.invariant.0 ∙ ap (ones_to c.args.map.now c.args.n) all ∙ sym (by-words-whole c.args.map.now c.args.n c.if-left-eq0.true) in
    (sum, sum ∙ by-words c.args.map.now (λ i. (c.shared_slice_known-1.given i).fits) c.args.n, omega arith)

pub returns : goal.returns
returns c =
    let all : c.loop-k.k ≡ c.args.n / 32 = omega arith in
    let counted = c.low_ones.ensures.0 ∙ ap (λ (w : ℕ). ones (w % 2 ^ (c.args.n % 32))) c.be32-2.ensures in
    let sum = c.loop-k.invariant.0 ∙ ap (ones_to c.args.map.now c.args.n) all in
    let whole : c.loop-k.ones + c.low_ones.result ≡ ones_by_words c.args.map.now c.args.n = omega (arith, sum, counted, by-words-cut c.args.map.now c.args.n (omega arith)) in
    (whole, whole ∙ by-words c.args.map.now (λ i. (c.shared_slice_known-1.given i).fits) c.args.n, omega arith)
