-- Two maps compared bit by bit, and by words.
use Rattle.std.specs.Prelude.{◌≡◌, Bool, ℕ, ◌+◌, ◌-◌, ◌*◌, ◌/◌, ◌%◌, List, get_or, eqb}
use Rattle.std.proofs.Math.Path.{refl}
use Rattle.std.proofs.Common.{ap, arith}
use Rattle.std.proofs.Math.Bool.{true, false, not}
use Rattle.std.specs.Bool.{beq}
use Rattle.lists.specs.Lists.{bit_of, least}
use Rattle.list_laws.specs.Least.{Below, least-below}
use Rattle.list_laws.specs.Test.{no_false}
use Rattle.spans.specs.Alike.{word_differs, word_bytes}
use Rattle.tfs_spec.specs.Layout.{map_bit}

-- whether bit k differs
unfoldable pub bit_differs : List ℕ → List ℕ → ℕ → Bool
bit_differs a b k = not (beq (map_bit a k) (map_bit b k))

beq_same : (s t : Bool) → s ≡ t → not (beq s t) ≡ false
beq_same true true e = refl
beq_same true false e = e
beq_same false true e = cc
beq_same false false e = refl

-- the bits of a word that is the same
pub bits-alike : (a b : List ℕ) (k : ℕ) → word_differs a b (k / 32) ≡ false → bit_differs a b k ≡ false
unfolding bit_differs map_bit
bits-alike a b k e =
    let same : get_or a (4 * (k / 32) + (3 - k % 32 / 8)) 0 ≡ get_or b (4 * (k / 32) + (3 - k % 32 / 8)) 0 = word_bytes a b (k / 32) (3 - k % 32 / 8) e (omega arith) in
    beq_same (map_bit a k) (map_bit b k) (ap (λ (x : ℕ). eqb (bit_of x (k % 8)) 1) same)

-- and of the words before the first that is not
pub words-alike : (a b : List ℕ) (w r : ℕ) → r ≡ least (word_differs a b) w → Below (bit_differs a b) (32 * r)
words-alike a b w r e k h =
    bits-alike a b k (no_false (word_differs a b (k / 32)) (least-below (word_differs a b) w (k / 32) (omega arith)))
