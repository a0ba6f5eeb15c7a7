use Prim.Native.Nat.{◌+◌, ◌/◌, ◌≤◌}
use native.Mathlib.Omega.{arith}
use Rattle.list_laws.specs.Least.{found, none_found, least-le}
use Rattle.spans.specs.Alike.{word_differs}
use Rattle.tfs_map.specs.Compare.{bit_differs, words-alike}
use Rattle.std.proofs.Common.{rules}
use Rattle.tfs_map.proofs.compare.first_difference.Goals as goal

pub overflow_step-k : goal.overflow_step-k
overflow_step-k c =
    let few : c.same_words-words.result ≤ 128 = omega (arith, c.same_words-words.ensures, least-le (word_differs c.args.a.now c.args.b.now) ((c.args.n + 31) / 32)) in
    omega (arith, few)

pub loop-k-init : goal.loop-k-init
loop-k-init c =
    words-alike c.args.a.now c.args.b.now ((c.args.n + 31) / 32) c.same_words-words.result c.same_words-words.ensures

pub returns-then-bit_differs-clause-first : goal.returns-then-bit_differs-clause-first
returns-then-bit_differs-clause-first c = found _ _ _ (search rules) c.loop-k.invariant (cc)

pub returns-clause-first : goal.returns-clause-first
returns-clause-first c =
    none_found (bit_differs c.args.a.now c.args.b.now) c.args.n c.args.n (omega arith) (omega arith) (λ i l. c.loop-k.invariant i (omega arith))
