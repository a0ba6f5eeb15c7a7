-- Two maps: the bits that the first has too many, cleared.
use Rattle.std.specs.Prelude.{◌≡◌, Bool, ◌&&◌, take, drop, eqb}
use Rattle.std.proofs.Math.Path.{refl, sym, ap}
use Rattle.std.proofs.Common.{◌∙◌, add-one, arith, length-append, length-drop, length-take-le, get_or-take, get_or-drop, get_or-append-add}
use Rattle.std.proofs.Math.Bool.{true, false, not, cond}
use Prim.Native.Nat.{ℕ, zero, suc, ◌+◌, ◌-◌, ◌*◌, ◌/◌, ◌%◌, ◌≤◌, ◌<◌}
use Rattle.std.proofs.Math.Decide.{dec_lt, ℕ_discrete}
use mathlib.Core.List.{List, ◌++◌}
use Rattle.std.proofs.Math.ListN.{length, get_or, get_or-append}
use Rattle.std.proofs.Math.Dec.{T}
use Rattle.lists.specs.Lists.{bit_of}
use Rattle.list_laws.specs.Test.{by-test, cond_yes, cond_no}
use Rattle.list_laws.specs.Least.{Below}
use Rattle.tfs_spec.specs.Layout.{map_byte, map_bit, set_bit}
use Rattle.tfs_facts.specs.MapBits.{in_map, length-set_bit, bit-set, bit_kept, above-set, maps-same}
use Rattle.tfs_mend.specs.Missing.{is_missing}

unfoldable pub is_extra : List ℕ → List ℕ → ℕ → Bool
is_extra map owned k = map_bit map k && not (map_bit owned k)

-- the map with bit k clear where it is extra
unfoldable pub one_cleared : List ℕ → List ℕ → ℕ → List ℕ
one_cleared map owned k = cond (is_extra map owned k) (set_bit map k 0) map

-- the map with the extra bits below k clear
unfoldable pub clear_extra : List ℕ → List ℕ → ℕ → List ℕ
clear_extra map owned zero = map
clear_extra map owned (suc b) = let m : List ℕ = clear_extra map owned b in cond (is_extra map owned b) (set_bit m b 0) m

-- ---- one bit more
module _ (map owned : List ℕ) where
  clear-length : (k : ℕ) → length (clear_extra map owned k) ≡ length map
  unfolding clear_extra
  clear-length zero = refl
  clear-length (suc b) =
      by-test (is_extra map owned b)
      (λ t. ap length (cond_yes (is_extra map owned b) _ _ t) ∙ length-set_bit (clear_extra map owned b) b 0 ∙ clear-length b)
      (λ t. ap length (cond_no (is_extra map owned b) _ _ t) ∙ clear-length b)

  module _ (long : length map ≡ 512) where
    in-it : (k : ℕ) → k < 4096 → map_byte k < length (clear_extra map owned k)
    in-it k h = omega (arith, clear-length k, in_map 512 k refl h)

    -- a bit that has not had its turn is as it was
    later : (k b : ℕ) → k ≤ b → k ≤ 4096 → map_bit (clear_extra map owned k) b ≡ map_bit map b
    unfolding clear_extra
    later zero b l h = refl
    later (suc k) b l h =
        by-test (is_extra map owned k)
        (λ t.
        ap (λ (m : List ℕ). map_bit m b) (cond_yes (is_extra map owned k) _ _ t)
        ∙ bit_kept (clear_extra map owned k) k 0 (in-it k (omega arith)) (omega arith) b (λ e. omega arith)
        ∙ later k b (omega arith) (omega arith))
        (λ t. ap (λ (m : List ℕ). map_bit m b) (cond_no (is_extra map owned k) _ _ t) ∙ later k b (omega arith) (omega arith))

    pub clear_next : (k : ℕ) → k < 4096 → one_cleared (clear_extra map owned k) owned k ≡ clear_extra map owned (k + 1)
    unfolding one_cleared is_extra clear_extra
    clear_next k h =
        ap (λ (x : Bool). cond (x && not (map_bit owned k)) (set_bit (clear_extra map owned k) k 0) (clear_extra map owned k)) (later k k (omega arith) (omega arith))
        ∙ ap (clear_extra map owned) (sym (add-one k))

    -- one that has is set in both maps
    earlier : (k b : ℕ) → b < k → k ≤ 4096 → map_bit (clear_extra map owned k) b ≡ (map_bit map b && map_bit owned b)
    unfolding clear_extra is_extra
    earlier zero b l h = absurd (omega arith)
    earlier (suc k) b l h =
        elim (ℕ_discrete b k) [
          | yes e ↦ (ap (map_bit (clear_extra map owned (suc k))) e ∙ here ∙ ap (λ (x : ℕ). map_bit map x && map_bit owned x) (sym e))
          | no d ↦ (there d ∙ earlier k b (omega arith) (omega arith))
        ]
      where
        here : map_bit (clear_extra map owned (suc k)) k ≡ (map_bit map k && map_bit owned k)
        here =
            by-test (is_extra map owned k)
            (λ t. ap (λ (m : List ℕ). map_bit m k) (cond_yes (is_extra map owned k) _ _ t) ∙ bit-set (clear_extra map owned k) k 0 (in-it k (omega arith)) (omega arith) ∙ one (map_bit map k) (map_bit owned k) t)
            (λ t. ap (λ (m : List ℕ). map_bit m k) (cond_no (is_extra map owned k) _ _ t) ∙ later k k (omega arith) (omega arith) ∙ other (map_bit map k) (map_bit owned k) t)
          where
            one : (x y : Bool) → T (x && not y) → false ≡ (x && y)
            one true true t = absurd t
            one true false t = refl
            one false y t = absurd t

            other : (x y : Bool) → T (not (x && not y)) → x ≡ (x && y)
            other true true t = refl
            other true false t = absurd t
            other false y t = refl

        there : (b ≡ k → ⊥) → map_bit (clear_extra map owned (suc k)) b ≡ map_bit (clear_extra map owned k) b
        there d =
            by-test (is_extra map owned k)
            (λ t. ap (λ (m : List ℕ). map_bit m b) (cond_yes (is_extra map owned k) _ _ t) ∙ bit_kept (clear_extra map owned k) k 0 (in-it k (omega arith)) (omega arith) b d)
            (λ t. ap (λ (m : List ℕ). map_bit m b) (cond_no (is_extra map owned k) _ _ t))

    above : (k : ℕ) → k ≤ 4096 → (i : ℕ) → get_or (clear_extra map owned k) i 0 / 256 ≡ get_or map i 0 / 256
    unfolding clear_extra
    above zero h i = refl
    above (suc k) h i =
        by-test (is_extra map owned k)
        (λ t.
        ap (λ (m : List ℕ). get_or m i 0 / 256) (cond_yes (is_extra map owned k) _ _ t)
        ∙ above-set (clear_extra map owned k) k 0 (in-it k (omega arith)) (omega arith) i
        ∙ above k (omega arith) i)
        (λ t. ap (λ (m : List ℕ). get_or m i 0 / 256) (cond_no (is_extra map owned k) _ _ t) ∙ above k (omega arith) i)

    -- where no bit is missing, the extra ones of w words are cleared by taking these words from owned
    module _ (w : ℕ) (few : w ≤ 128) (own : length owned ≡ 512) where
      abbrev new : List ℕ
      new = take (4 * w) owned ++ drop (4 * w) map

      length_front : length (take (4 * w) owned) ≡ 4 * w
      length_front = length-take-le (4 * w) owned (omega arith)

      pub length_taken : length (take (4 * w) owned ++ drop (4 * w) map) ≡ 512
      length_taken = length-append (take (4 * w) owned) (drop (4 * w) map) ∙ omega (arith, length_front, length-drop (4 * w) map)

      front : (i : ℕ) → i < 4 * w → get_or new i 0 ≡ get_or owned i 0
      front i l = get_or-append (take (4 * w) owned) (drop (4 * w) map) 0 i (omega (arith, length_front)) ∙ get_or-take (4 * w) owned i 0 l

      back : (i : ℕ) → 4 * w ≤ i → get_or new i 0 ≡ get_or map i 0
      back i l =
          let at : i ≡ length (take (4 * w) owned) + (i - 4 * w) = omega (arith, length_front) in
          let from : 4 * w + (i - 4 * w) ≡ i = omega arith in
          ap (λ (x : ℕ). get_or new x 0) at
          ∙ get_or-append-add (take (4 * w) owned) (drop (4 * w) map) (i - 4 * w) 0
          ∙ get_or-drop (4 * w) map (i - 4 * w) 0
          ∙ ap (λ (x : ℕ). get_or map x 0) from

      both : (x y : Bool) → (not x && y) ≡ false → y ≡ (x && y)
      both true y e = refl
      both false y e = e

      pub words-taken : ((i : ℕ) → get_or map i 0 < 256) → ((i : ℕ) → get_or owned i 0 < 256) → Below (is_missing map owned) (32 * w) → take (4 * w) owned ++ drop (4 * w) map ≡ clear_extra map owned (32 * w)
      unfolding map_bit is_missing
      words-taken fits owns none =
          maps-same new (clear_extra map owned (32 * w)) (length_taken ∙ sym (clear-length (32 * w) ∙ long))
          (λ i. small i ∙ sym (above (32 * w) (omega arith) i ∙ omega (arith, fits i))) bit
        where
          small : (i : ℕ) → get_or new i 0 / 256 ≡ 0
          small i = elim (dec_lt i (4 * w)) [ yes l ↦ omega (arith, front i l, owns i) | no l ↦ omega (arith, back i (omega arith), fits i) ]

          bit : (b : ℕ) → map_bit new b ≡ map_bit (clear_extra map owned (32 * w)) b
          bit b =
              elim (dec_lt b (32 * w)) [
                | yes l ↦ (ap (λ (x : ℕ). eqb (bit_of x (b % 8)) 1) (front (map_byte b) (omega arith)) ∙ both (map_bit map b) (map_bit owned b) (none b l) ∙ sym (earlier (32 * w) b l (omega arith)))
                | no l ↦ (ap (λ (x : ℕ). eqb (bit_of x (b % 8)) 1) (back (map_byte b) (omega arith)) ∙ sym (later (32 * w) b (omega arith) (omega arith)))
              ]

pub length-one : (map owned : List ℕ) (k : ℕ) → length (one_cleared map owned k) ≡ length map
unfolding one_cleared
length-one map owned k =
    by-test (is_extra map owned k) (λ t. ap length (cond_yes (is_extra map owned k) _ _ t) ∙ length-set_bit map k 0) (λ t. ap length (cond_no (is_extra map owned k) _ _ t))
