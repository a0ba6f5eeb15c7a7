-- One bit of a number.
use Rattle.std.specs.Prelude.{◌≡◌, refl, ◌≢◌, ℕ, zero, suc, ◌+◌, ◌*◌, ◌/◌, ◌%◌, ◌^◌, ◌<◌}
use Rattle.std.proofs.Common.{sym, ap, ◌∙◌, div-one, arith}
use Rattle.std.proofs.Math.Nat.{pow-succ', div-div-eq-div-mul}
use Rattle.lists.specs.Lists.{bit_of, with_bit}

-- bit k by a shift
pub bit-shift : (n k : ℕ) → n / 2 ^ k % 2 ≡ bit_of n k
unfolding bit_of
bit-shift n zero = rw div-one
bit-shift n (suc k) = rw (pow-succ', ← div-div-eq-div-mul) (bit-shift (n / 2) k)

pub bit-small : (n k : ℕ) → bit_of n k < 2
unfolding bit_of
bit-small n zero = omega arith
bit-small n (suc k) = bit-small (n / 2) k

pub bit-zero : (k : ℕ) → bit_of 0 k ≡ 0
unfolding bit_of
bit-zero zero = refl
bit-zero (suc k) = bit-zero k

half : (n m v : ℕ) → (m * 2 + n % 2) / 2 ≡ m
half n m v = omega arith

pub bit-same : (n k v : ℕ) → v < 2 → bit_of (with_bit n k v) k ≡ v
unfolding bit_of with_bit
bit-same n zero v h = omega arith
bit-same n (suc k) v h = rw (half n (with_bit (n / 2) k v) v) (bit-same (n / 2) k v h)

pub bit-other : (n k j v : ℕ) → v < 2 → k ≢ j → bit_of (with_bit n k v) j ≡ bit_of n j
unfolding bit_of with_bit
bit-other n zero zero v h d = absurd (d refl)
bit-other n zero (suc j) v h d = ap (λ (x : ℕ). bit_of x j) (omega arith)
bit-other n (suc k) zero v h d = omega arith
bit-other n (suc k) (suc j) v h d = rw (half n (with_bit (n / 2) k v) v) (bit-other (n / 2) k j v h (λ e. d (ap suc e)))

-- a bit that has the value stays
pub bit-stays : (n k : ℕ) → with_bit n k (bit_of n k) ≡ n
unfolding bit_of with_bit
bit-stays n zero = omega arith
bit-stays n (suc k) = omega (arith, bit-stays (n / 2) k)

-- the later of two values of one bit counts
pub bit-again : (n k v w : ℕ) → v < 2 → with_bit (with_bit n k v) k w ≡ with_bit n k w
unfolding with_bit
bit-again n zero v w h = omega arith
bit-again n (suc k) v w h =
    let a : (with_bit (n / 2) k v * 2 + n % 2) / 2 ≡ with_bit (n / 2) k v = half n (with_bit (n / 2) k v) v in
    let b : (with_bit (n / 2) k v * 2 + n % 2) % 2 ≡ n % 2 = omega arith in
    rw (a, b, bit-again (n / 2) k v w h)

-- two bits are set in whatever order
pub bit-comm : (n k j v w : ℕ) → v < 2 → w < 2 → k ≢ j → with_bit (with_bit n k v) j w ≡ with_bit (with_bit n j w) k v
unfolding with_bit
bit-comm n zero zero v w hv hw d = absurd (d refl)
bit-comm n zero (suc j) v w hv hw d =
    let a : (n / 2 * 2 + v) / 2 ≡ n / 2 = omega arith in
    let b : (n / 2 * 2 + v) % 2 ≡ v = omega arith in
    let c : (with_bit (n / 2) j w * 2 + n % 2) / 2 ≡ with_bit (n / 2) j w = half n (with_bit (n / 2) j w) w in
    rw (a, b, c)
bit-comm n (suc k) zero v w hv hw d =
    let a : (n / 2 * 2 + w) / 2 ≡ n / 2 = omega arith in
    let b : (n / 2 * 2 + w) % 2 ≡ w = omega arith in
    let c : (with_bit (n / 2) k v * 2 + n % 2) / 2 ≡ with_bit (n / 2) k v = half n (with_bit (n / 2) k v) v in
    rw (a, b, c)
bit-comm n (suc k) (suc j) v w hv hw d =
    let a : (with_bit (n / 2) k v * 2 + n % 2) / 2 ≡ with_bit (n / 2) k v = half n (with_bit (n / 2) k v) v in
    let b : (with_bit (n / 2) k v * 2 + n % 2) % 2 ≡ n % 2 = omega arith in
    let c : (with_bit (n / 2) j w * 2 + n % 2) / 2 ≡ with_bit (n / 2) j w = half n (with_bit (n / 2) j w) w in
    let e : (with_bit (n / 2) j w * 2 + n % 2) % 2 ≡ n % 2 = omega arith in
    rw (a, b, c, e, bit-comm (n / 2) k j v w hv hw (λ x. d (ap suc x)))

-- a number of m bits stays one
pub with-lt : (n k m v : ℕ) → v < 2 → k < m → n < 2 ^ m → with_bit n k v < 2 ^ m
unfolding with_bit
with-lt n k zero v h l b = absurd (omega arith)
with-lt n zero (suc m) v h l b = omega (arith, pow-succ' 2 m)
with-lt n (suc k) (suc m) v h l b = omega (arith, pow-succ' 2 m, with-lt (n / 2) k m v h (omega arith) (omega (arith, pow-succ' 2 m)))

-- bit k of a number in base 2 ^ m: that of its low digit, or of the rest
pub bit-low : (a b m k : ℕ) → k < m → bit_of (a * 2 ^ m + b) k ≡ bit_of b k
unfolding bit_of
bit-low a b zero k h = absurd (omega arith)
bit-low a b (suc m) zero h =
    let e : a * 2 ^ suc m ≡ 2 * (a * 2 ^ m) = ap (λ (x : ℕ). a * x) (pow-succ' 2 m) ∙ omega arith in
    rw e (omega arith)
bit-low a b (suc m) (suc k) h =
    let e : a * 2 ^ suc m ≡ 2 * (a * 2 ^ m) = ap (λ (x : ℕ). a * x) (pow-succ' 2 m) ∙ omega arith in
    let f : (a * 2 ^ suc m + b) / 2 ≡ a * 2 ^ m + b / 2 = rw e (omega arith) in
    rw f (bit-low a (b / 2) m k (omega arith))

bit-next : (n k : ℕ) → bit_of n (suc k) ≡ bit_of (n / 2) k
unfolding bit_of
bit-next n k = refl

pub bit_high : (a b m k : ℕ) → b < 2 ^ m → bit_of (a * 2 ^ m + b) (m + k) ≡ bit_of a k
bit_high a b zero k h =
    let e : a * 2 ^ 0 + b ≡ a = omega arith in
    let f : 0 + k ≡ k = omega arith in
    rw (e, f)
bit_high a b (suc m) k h =
    let e : a * 2 ^ suc m ≡ 2 * (a * 2 ^ m) = ap (λ (x : ℕ). a * x) (pow-succ' 2 m) ∙ omega arith in
    let f : (a * 2 ^ suc m + b) / 2 ≡ a * 2 ^ m + b / 2 = rw e (omega arith) in
    let s : suc m + k ≡ suc (m + k) = omega arith in
    ap (bit_of (a * 2 ^ suc m + b)) s
    ∙ bit-next (a * 2 ^ suc m + b) (m + k)
    ∙ ap (λ (x : ℕ). bit_of x (m + k)) f
    ∙ bit_high a (b / 2) m k (omega (arith, pow-succ' 2 m))

-- what stands above the low m bits, by halves
shift-next : (n m : ℕ) → n / 2 ^ suc m ≡ n / 2 / 2 ^ m
shift-next n m = rw (pow-succ', ← div-div-eq-div-mul)

pub bit-above : (n k v m : ℕ) → v < 2 → k < m → with_bit n k v / 2 ^ m ≡ n / 2 ^ m
unfolding with_bit
bit-above n k v zero h l = absurd (omega arith)
bit-above n zero v (suc m) h l =
    shift-next (n / 2 * 2 + v) m ∙ ap (λ (x : ℕ). x / 2 ^ m) (omega arith) ∙ sym (shift-next n m)
bit-above n (suc k) v (suc m) h l =
    shift-next (with_bit (n / 2) k v * 2 + n % 2) m
    ∙ ap (λ (x : ℕ). x / 2 ^ m) (half n (with_bit (n / 2) k v) v)
    ∙ bit-above (n / 2) k v m h (omega arith)
    ∙ sym (shift-next n m)

-- a number is told by its low m bits and what stands above them
pub bits-tell : (m x y : ℕ) → x / 2 ^ m ≡ y / 2 ^ m → ((k : ℕ) → k < m → bit_of x k ≡ bit_of y k) → x ≡ y
unfolding bit_of
bits-tell zero x y e h = omega (arith, e)
bits-tell (suc m) x y e h =
    let q : x / 2 ≡ y / 2 = bits-tell m (x / 2) (y / 2) (sym (shift-next x m) ∙ e ∙ shift-next y m) (λ k l. h (suc k) (omega arith)) in
    omega (arith, q, h 0 (omega arith))
