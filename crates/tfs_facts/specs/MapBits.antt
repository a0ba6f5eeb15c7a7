-- The map: setting and clearing the bits of blocks.
use Rattle.std.specs.Prelude.{◌≡◌, refl, ◌≢◌, ◌⊎◌, false, ℕ, zero, suc, ◌+◌, ◌-◌, ◌*◌, ◌/◌, ◌%◌, ◌<◌, List, [], ◌∷◌, length, get_or, T}
use Rattle.std.proofs.Math.Path.{sym, ap, subst}
use Rattle.std.proofs.Common.{◌∙◌, inl, inr, ⊎_elim, arith, length-set, get_or-set_same, get_or-set_other, ext_get_or, eqb→eq}
use Rattle.std.proofs.Math.Decide.{ℕ_discrete}
use Rattle.std.proofs.Math.ListN.{set}
use Rattle.std.proofs.Math.Seq.{set-set}
use Rattle.std.proofs.lemmas.List.{set_comm, set-get_or}
use Rattle.std.proofs.Math.Dec.{eqb}
use Rattle.std.proofs.lemmas.Bool.{eqb-false}
use Rattle.lists.specs.Lists.{In, bit_of, with_bit}
use Rattle.list_laws.specs.Bits.{bit-same, bit-other, bit-stays, bit-again, bit-small, bit-comm, bit-above, bits-tell}
use Rattle.tfs_spec.specs.Layout.{map_byte, map_bit, set_bit, set_bits}

digits : (c : ℕ) → c ≡ 32 * (c / 32) + 8 * (c % 32 / 8) + c % 8
digits c = omega arith

quad : (q r u t : ℕ) → r < 4 → t < 4 → 4 * q + (3 - r) ≡ 4 * u + (3 - t) → (q ≡ u) × (r ≡ t)
quad q r u t h k e = omega arith

-- byte and bit tell the block
pub byte-bit : (c b : ℕ) → map_byte c ≡ map_byte b → c % 8 ≡ b % 8 → c ≡ b
byte-bit c b e m =
    let z : (c / 32 ≡ b / 32) × (c % 32 / 8 ≡ b % 32 / 8) = quad (c / 32) (c % 32 / 8) (b / 32) (b % 32 / 8) (omega arith) (omega arith) e in
    digits c ∙ cc (z.0, z.1, digits b)

-- a block below 8·B has its bit in the map of B bytes, B a multiple of 4
pub in_map : (B b : ℕ) → B % 4 ≡ 0 → b < 8 * B → map_byte b < B
in_map B b w h = omega arith

pub length-set_bit : (map : List ℕ) (b v : ℕ) → length (set_bit map b v) ≡ length map
unfolding set_bit
length-set_bit map b v = length-set map (map_byte b) (with_bit (get_or map (map_byte b) 0) (b % 8) v)

pub length-set_bits : (bs map : List ℕ) (v : ℕ) → length (set_bits map v bs) ≡ length map
length-set_bits [] map v = refl
length-set_bits (b ∷ bs) map v = length-set_bits bs (set_bit map b v) v ∙ length-set_bit map b v

module _ (map : List ℕ) (b v : ℕ) (h : map_byte b < length map) (two : v < 2) where
  abbrev new : ℕ
  new = with_bit (get_or map (map_byte b) 0) (b % 8) v

  pub bit-set : map_bit (set_bit map b v) b ≡ eqb v 1
  unfolding map_bit set_bit
  bit-set =
      ap (λ (x : ℕ). eqb (bit_of x (b % 8)) 1) (get_or-set_same map (map_byte b) new 0 h)
      ∙ ap (λ (x : ℕ). eqb x 1) (bit-same (get_or map (map_byte b) 0) (b % 8) v two)

  pub bit_kept : (c : ℕ) → c ≢ b → map_bit (set_bit map b v) c ≡ map_bit map c
  unfolding map_bit set_bit
  bit_kept c d =
      elim (ℕ_discrete (map_byte c) (map_byte b)) [
        | yes e ↦ (ap (λ (i : ℕ). eqb (bit_of (get_or (set map (map_byte b) new) i 0) (c % 8)) 1) e
            ∙ ap (λ (x : ℕ). eqb (bit_of x (c % 8)) 1) (get_or-set_same map (map_byte b) new 0 h)
            ∙ ap (λ (x : ℕ). eqb x 1) (bit-other (get_or map (map_byte b) 0) (b % 8) (c % 8) v two (λ m. d (byte-bit c b e (sym m))))
            ∙ ap (λ (i : ℕ). eqb (bit_of (get_or map i 0) (c % 8)) 1) (sym e))
        | no e ↦ ap (λ (x : ℕ). eqb (bit_of x (c % 8)) 1) (get_or-set_other map (map_byte b) (map_byte c) new 0 e)
      ]

pub in-dec : (b : ℕ) (xs : List ℕ) → Dec (In b xs)
in-dec b [] = no (λ x. x)
in-dec b (x ∷ xs) = go (ℕ_discrete b x) (in-dec b xs)
  where
    go : Dec (b ≡ x) → Dec (In b xs) → Dec ((b ≡ x) ⊎ In b xs)
    go (yes e) d = yes (inl e)
    go (no e) (yes i) = yes (inr i)
    go (no e) (no i) = no (λ z. ⊎_elim e i z)

pub in-at : (xs : List ℕ) (b : ℕ) → In b xs → (m : ℕ) × (m < length xs) × (get_or xs m 0 ≡ b)
in-at [] b i = absurd i
in-at (x ∷ xs) b i = ⊎_elim (λ e. (0, omega arith, sym e)) (λ j. let r = in-at xs b j in (suc r.0, omega (arith, r.1), r.2)) i

pub at_in : (xs : List ℕ) (m : ℕ) → m < length xs → In (get_or xs m 0) xs
at_in [] m h = absurd (omega arith)
at_in (x ∷ xs) zero h = inl refl
at_in (x ∷ xs) (suc m) h = inr (at_in xs m (omega arith))

-- every block of a list has its bit in the map
abbrev pub Mapped : ℕ → List ℕ → Type 0
Mapped len [] = Unit {0}
Mapped len (b ∷ bs) = (map_byte b < len) × Mapped len bs

pub mapped-all : (bs : List ℕ) (len : ℕ) → ((b : ℕ) → In b bs → map_byte b < len) → Mapped len bs
mapped-all [] len h = tt
mapped-all (b ∷ bs) len h = (h b (inl refl), mapped-all bs len (λ c i. h c (inr i)))

module _ (v : ℕ) (two : v < 2) where
  pub bits-kept : (bs map : List ℕ) → Mapped (length map) bs → (c : ℕ) → (In c bs → ⊥) → map_bit (set_bits map v bs) c ≡ map_bit map c
  bits-kept [] map m c d = refl
  bits-kept (b ∷ bs) map m c d =
      bits-kept bs (set_bit map b v) (subst (λ (n : ℕ). Mapped n bs) (sym (length-set_bit map b v)) m.1) c (λ i. d (inr i))
      ∙ bit_kept map b v m.0 two c (λ e. d (inl e))

  pub bits-set : (bs map : List ℕ) → Mapped (length map) bs → (c : ℕ) → In c bs → map_bit (set_bits map v bs) c ≡ eqb v 1
  bits-set [] map m c i = absurd i
  bits-set (b ∷ bs) map m c i =
      let m' : Mapped (length (set_bit map b v)) bs = subst (λ (n : ℕ). Mapped n bs) (sym (length-set_bit map b v)) m.1 in
      elim (in-dec c bs) [
        | yes j ↦ bits-set bs (set_bit map b v) m' c j
        | no j ↦ bits-kept bs (set_bit map b v) m' c j ∙ ⊎_elim (λ e. ap (map_bit (set_bit map b v)) e ∙ bit-set map b v m.0 two) (λ k. absurd (j k)) i
      ]

-- ---- bits set and cleared again
module _ (map : List ℕ) (b c v w : ℕ) (hb : map_byte b < length map) (hv : v < 2) (hw : w < 2) (d : b ≢ c) where
  abbrev x : ℕ
  x = get_or map (map_byte b) 0

  -- two blocks' bits are set in whatever order
  pub set_bit-comm : set_bit (set_bit map b v) c w ≡ set_bit (set_bit map c w) b v
  unfolding set_bit
  set_bit-comm =
      elim (ℕ_discrete (map_byte b) (map_byte c)) [
        | yes e ↦ subst (λ (m : ℕ).
            set (set map (map_byte b) (with_bit x (b % 8) v)) m (with_bit (get_or (set map (map_byte b) (with_bit x (b % 8) v)) m 0) (c % 8) w)
            ≡ set (set map m (with_bit (get_or map m 0) (c % 8) w)) (map_byte b) (with_bit (get_or (set map m (with_bit (get_or map m 0) (c % 8) w)) (map_byte b) 0) (b % 8) v)) e (here e)
        | no e ↦ there e
      ]
    where
      here : map_byte b ≡ map_byte c →
          set (set map (map_byte b) (with_bit x (b % 8) v)) (map_byte b) (with_bit (get_or (set map (map_byte b) (with_bit x (b % 8) v)) (map_byte b) 0) (c % 8) w)
          ≡ set (set map (map_byte b) (with_bit x (c % 8) w)) (map_byte b) (with_bit (get_or (set map (map_byte b) (with_bit x (c % 8) w)) (map_byte b) 0) (b % 8) v)
      here e =
          set-set map (map_byte b) (with_bit x (b % 8) v) _
          ∙ ap (λ (y : ℕ). set map (map_byte b) (with_bit y (c % 8) w)) (get_or-set_same map (map_byte b) (with_bit x (b % 8) v) 0 hb)
          ∙ ap (set map (map_byte b)) (bit-comm x (b % 8) (c % 8) v w hv hw (λ m. d (byte-bit b c e m)))
          ∙ ap (λ (y : ℕ). set map (map_byte b) (with_bit y (b % 8) v)) (sym (get_or-set_same map (map_byte b) (with_bit x (c % 8) w) 0 hb))
          ∙ sym (set-set map (map_byte b) (with_bit x (c % 8) w) _)

      there : map_byte b ≢ map_byte c →
          set (set map (map_byte b) (with_bit x (b % 8) v)) (map_byte c) (with_bit (get_or (set map (map_byte b) (with_bit x (b % 8) v)) (map_byte c) 0) (c % 8) w)
          ≡ set (set map (map_byte c) (with_bit (get_or map (map_byte c) 0) (c % 8) w)) (map_byte b) (with_bit (get_or (set map (map_byte c) (with_bit (get_or map (map_byte c) 0) (c % 8) w)) (map_byte b) 0) (b % 8) v)
      there e =
          ap (λ (y : ℕ). set (set map (map_byte b) (with_bit x (b % 8) v)) (map_byte c) (with_bit y (c % 8) w)) (get_or-set_other map (map_byte b) (map_byte c) (with_bit x (b % 8) v) 0 (λ z. e (sym z)))
          ∙ set_comm map (map_byte b) (map_byte c) (with_bit x (b % 8) v) (with_bit (get_or map (map_byte c) 0) (c % 8) w) e
          ∙ ap (λ (y : ℕ). set (set map (map_byte c) (with_bit (get_or map (map_byte c) 0) (c % 8) w)) (map_byte b) (with_bit y (b % 8) v)) (sym (get_or-set_other map (map_byte c) (map_byte b) (with_bit (get_or map (map_byte c) 0) (c % 8) w) 0 e))

-- a clear bit set and cleared
pub set_bit-undo : (map : List ℕ) (b : ℕ) → map_byte b < length map → map_bit map b ≡ false → set_bit (set_bit map b 1) b 0 ≡ map
unfolding set_bit map_bit
set_bit-undo map b h e =
    let y : ℕ = get_or map (map_byte b) 0 in
    let zero_bit : bit_of (get_or map (map_byte b) 0) (b % 8) ≡ 0 = omega (arith, bit-small (get_or map (map_byte b) 0) (b % 8), eqb-false (bit_of (get_or map (map_byte b) 0) (b % 8)) 1 e) in
    set-set map (map_byte b) (with_bit (get_or map (map_byte b) 0) (b % 8) 1) _
    ∙ ap (λ (q : ℕ). set map (map_byte b) (with_bit q (b % 8) 0)) (get_or-set_same map (map_byte b) (with_bit (get_or map (map_byte b) 0) (b % 8) 1) 0 h)
    ∙ ap (set map (map_byte b)) (bit-again (get_or map (map_byte b) 0) (b % 8) 1 0 (omega arith) ∙ ap (with_bit (get_or map (map_byte b) 0) (b % 8)) (sym zero_bit) ∙ bit-stays (get_or map (map_byte b) 0) (b % 8))
    ∙ set-get_or map (map_byte b) 0

set_bits-comm : (bs map : List ℕ) (b v w : ℕ) → map_byte b < length map → v < 2 → w < 2 → (In b bs → ⊥) → set_bit (set_bits map v bs) b w ≡ set_bits (set_bit map b w) v bs
set_bits-comm [] map b v w h hv hw d = refl
set_bits-comm (c ∷ bs) map b v w h hv hw d =
    set_bits-comm bs (set_bit map c v) b v w (subst (λ (n : ℕ). map_byte b < n) (sym (length-set_bit map c v)) h) hv hw (λ i. d (inr i))
    ∙ ap (λ (m : List ℕ). set_bits m v bs) (sym (set_bit-comm map b c w v h hw hv (λ e. d (inl e))))

-- each block once
abbrev pub Distinct : List ℕ → Type 0
Distinct [] = Unit {0}
Distinct (b ∷ bs) = (In b bs → ⊥) × Distinct bs

-- clear bits set and cleared: the map is back, byte for byte
pub set_bits-undo : (bs map : List ℕ) → Distinct bs → Mapped (length map) bs → ((b : ℕ) → In b bs → map_bit map b ≡ false) → set_bits (set_bits map 1 bs) 0 bs ≡ map
set_bits-undo [] map d m h = refl
set_bits-undo (b ∷ bs) map d m h =
    ap (λ (x : List ℕ). set_bits x 0 bs)
    (set_bits-comm bs (set_bit map b 1) b 1 0 (subst (λ (n : ℕ). map_byte b < n) (sym (length-set_bit map b 1)) m.0) (omega arith) (omega arith) d.0
    ∙ ap (λ (x : List ℕ). set_bits x 1 bs) (set_bit-undo map b m.0 (h b (inl refl))))
    ∙ set_bits-undo bs map d.1 m.1 (λ c i. h c (inr i))

-- ---- a map is told by its bits, and by what stands above the eight of each byte
pub above-set : (map : List ℕ) (b v : ℕ) → map_byte b < length map → v < 2 → (i : ℕ) → get_or (set_bit map b v) i 0 / 256 ≡ get_or map i 0 / 256
unfolding set_bit
above-set map b v h two i =
    elim (ℕ_discrete i (map_byte b)) [
      | yes e ↦ (ap (λ (j : ℕ). get_or (set map (map_byte b) (with_bit (get_or map (map_byte b) 0) (b % 8) v)) j 0 / 256) e
          ∙ ap (λ (y : ℕ). y / 256) (get_or-set_same map (map_byte b) (with_bit (get_or map (map_byte b) 0) (b % 8) v) 0 h)
          ∙ bit-above (get_or map (map_byte b) 0) (b % 8) v 8 two (omega arith)
          ∙ ap (λ (j : ℕ). get_or map j 0 / 256) (sym e))
      | no e ↦ ap (λ (y : ℕ). y / 256) (get_or-set_other map (map_byte b) i (with_bit (get_or map (map_byte b) 0) (b % 8) v) 0 e)
    ]

pub above-set-all : (bs map : List ℕ) (v : ℕ) → Mapped (length map) bs → v < 2 → (i : ℕ) → get_or (set_bits map v bs) i 0 / 256 ≡ get_or map i 0 / 256
above-set-all [] map v m two i = refl
above-set-all (b ∷ bs) map v m two i =
    above-set-all bs (set_bit map b v) v (subst (λ (n : ℕ). Mapped n bs) (sym (length-set_bit map b v)) m.1) two i ∙ above-set map b v m.0 two i

bit-same-test : (x y : ℕ) → x < 2 → y < 2 → eqb x 1 ≡ eqb y 1 → x ≡ y
bit-same-test x y h k e =
    elim (ℕ_discrete x 1) [
      | yes p ↦ sym (eqb→eq y 1 (subst T e (subst (λ (z : ℕ). T (eqb z 1)) (sym p) tt)) ∙ sym p)
      | no p ↦ elim (ℕ_discrete y 1) [
        | yes q ↦ absurd (p (eqb→eq x 1 (subst T (sym e) (subst (λ (z : ℕ). T (eqb z 1)) (sym q) tt))))
        | no q ↦ omega arith
      ]
    ]

pub maps-same : (a b : List ℕ) → length a ≡ length b → ((i : ℕ) → get_or a i 0 / 256 ≡ get_or b i 0 / 256) → ((k : ℕ) → map_bit a k ≡ map_bit b k) → a ≡ b
unfolding map_bit
maps-same a b long above same = ext_get_or 0 a b long (λ i l. bits-tell 8 (get_or a i 0) (get_or b i 0) (above i) (bit i))
  where
    bit : (i k : ℕ) → k < 8 → bit_of (get_or a i 0) k ≡ bit_of (get_or b i 0) k
    bit i k h =
        let at : map_byte (32 * (i / 4) + 8 * (3 - i % 4) + k) ≡ i = omega arith in
        let low : (32 * (i / 4) + 8 * (3 - i % 4) + k) % 8 ≡ k = omega arith in
        bit-same-test (bit_of (get_or a i 0) k) (bit_of (get_or b i 0) k) (bit-small (get_or a i 0) k) (bit-small (get_or b i 0) k)
        (sym (cc (at, low)) ∙ same (32 * (i / 4) + 8 * (3 - i % 4) + k) ∙ cc (at, low))
