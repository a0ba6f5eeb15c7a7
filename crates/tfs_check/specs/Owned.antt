-- Rules 6 and 7 by a map of the claimed blocks.
use Rattle.std.specs.Prelude.{◌≡◌, refl, ◌≢◌, Bool, true, false, ◌||◌, ℕ, suc, ◌+◌, ◌≤◌, ◌<◌, List, [], ◌∷◌, ◌++◌, length, leb, ltb}
use Rattle.std.proofs.Common.{sym, ◌∙◌, arith, append-nil, append_assoc, le-ltb, le-leb}
use Rattle.std.proofs.Math.Path.{ap}
use Rattle.std.proofs.Math.Bool.{not}
use Rattle.std.specs.Bool.{beq}
use Rattle.std.proofs.Math.Decide.{dec_le, ℕ_discrete}
use Rattle.std.proofs.lemmas.List.{length-replicate}
use Rattle.std.proofs.lemmas.Bool.{lt-leb}
use Rattle.lists.specs.Lists.{zeros, least}
use Rattle.list_laws.specs.Sum.{one-yes, one-no}
use Rattle.list_laws.specs.Test.{of-true}
use Rattle.list_laws.specs.Least.{least-all, least_more, least-cong}
use Rattle.tfs_spec.specs.Layout.{map_byte, map_bit, set_bit, set_bits, View}
use Rattle.tfs_spec.specs.Check.{times, claimed_twice, bad_bit}
use Rattle.tfs_facts.specs.Claims.{times-append}
use Rattle.tfs_facts.specs.MapBits.{in_map, length-set_bit, length-set_bits, bit-set, bit_kept}
use Rattle.tfs_facts.specs.FreshMap.{format_map, fresh-bit}
use Rattle.tfs_map.specs.Compare.{bit_differs}
use Rattle.tfs_inode.specs.Claims.{Within}
use Rattle.tfs_check.specs.Doubled.{lower_of, doubled, doubled-none, doubled-next}

-- the map marks blocks 0 to 2 and the blocks of a list
abbrev pub Marks : List ℕ → List ℕ → Type 0
Marks owned cs = (b : ℕ) → b < 4096 → map_bit owned b ≡ (ltb b 3 || leb 1 (times b cs))

-- ---- one claim more
times-same : (cs : List ℕ) (b : ℕ) → times b (cs ++ (b ∷ [])) ≡ times b cs + 1
times-same cs b = times-append b cs (b ∷ []) ∙ rw (one-yes b b refl) (omega arith)

times-other : (cs : List ℕ) (b k : ℕ) → k ≢ b → times k (cs ++ (b ∷ [])) ≡ times k cs
times-other cs b k d = times-append k cs (b ∷ []) ∙ rw (one-no b k (λ e. d (sym e))) (omega arith)

or-true : (t : Bool) → (t || true) ≡ true
or-true true = refl
or-true false = refl

or-false : (t : Bool) → (t || false) ≡ t
or-false true = refl
or-false false = refl

module _ (owned cs : List ℕ) (b : ℕ) (marks : Marks owned cs) (small : b < 4096) where
  marks-more : length owned ≡ 512 → Marks (set_bit owned b 1) (cs ++ (b ∷ []))
  marks-more long k l =
      let fits : map_byte b < length owned = omega (arith, in_map 512 b refl (omega arith)) in
      elim (ℕ_discrete k b) [
        | yes e ↦ rw e (bit-set owned b 1 fits (omega arith) ∙ sym (ap (λ (t : Bool). ltb b 3 || t) (le-leb 1 (times b (cs ++ (b ∷ []))) (omega (arith, times-same cs b))) ∙ or-true (ltb b 3)))
        | no d ↦ (bit_kept owned b 1 fits (omega arith) k d ∙ marks k l ∙ ap (λ (x : ℕ). ltb k 3 || leb 1 x) (sym (times-other cs b k d)))
      ]

  marked-as : 3 ≤ b → map_bit owned b ≡ leb 1 (times b cs)
  marked-as low = marks b small ∙ ap (λ (t : Bool). t || leb 1 (times b cs)) (le-ltb b 3 low)

  -- the lowest block claimed twice
  low-more : 3 ≤ b → (n : ℕ) → lower_of (map_bit owned b) b (least (claimed_twice cs) n) ≡ least (claimed_twice (cs ++ (b ∷ []))) n
  low-more low n =
      elim (dec_le 1 (times b cs)) [
        | yes h ↦ rw (marked-as low, le-leb 1 (times b cs) h)
            (least_more (claimed_twice cs) (claimed_twice (cs ++ (b ∷ []))) b (of-true _ (le-leb 2 (times b (cs ++ (b ∷ []))) (omega (arith, times-same cs b)))) (λ k d. ap (leb 2) (sym (times-other cs b k d))) n)
        | no h ↦ rw (marked-as low, lt-leb 1 (times b cs) (omega arith))
            (least-cong (claimed_twice cs) (claimed_twice (cs ++ (b ∷ []))) n (λ k l.
            elim (ℕ_discrete k b) [
              | yes e ↦ rw e (lt-leb 2 (times b cs) (omega arith) ∙ sym (lt-leb 2 (times b (cs ++ (b ∷ []))) (omega (arith, times-same cs b))))
              | no d ↦ ap (leb 2) (sym (times-other cs b k d))
            ]))
      ]

-- ---- all claims, after those of pre
pub claim-marks : (owned cs pre : List ℕ) → length owned ≡ 512 → Marks owned pre → Within 4096 cs → Marks (set_bits owned 1 cs) (pre ++ cs)
claim-marks owned [] pre long marks w = rw append-nil marks
claim-marks owned (b ∷ bs) pre long marks w =
    let more : pre ++ (b ∷ bs) ≡ (pre ++ (b ∷ [])) ++ bs = sym (append_assoc pre (b ∷ []) bs) in
    rw more
    (claim-marks (set_bit owned b 1) bs (pre ++ (b ∷ [])) (length-set_bit owned b 1 ∙ long) (marks-more owned pre b marks (w 0 (omega arith)).1 long) (λ i h. w (suc i) (omega arith)))

pub claim-low : (owned cs pre : List ℕ) (n : ℕ) → length owned ≡ 512 → Marks owned pre → Within 4096 cs → doubled owned cs (least (claimed_twice pre) n) ≡ least (claimed_twice (pre ++ cs)) n
claim-low owned [] pre n long marks w = doubled-none owned (least (claimed_twice pre) n) ∙ rw append-nil
claim-low owned (b ∷ bs) pre n long marks w =
    let more : pre ++ (b ∷ bs) ≡ (pre ++ (b ∷ [])) ++ bs = sym (append_assoc pre (b ∷ []) bs) in
    rw more
    (doubled-next owned b bs (least (claimed_twice pre) n)
    ∙ ap (doubled (set_bit owned b 1) bs) (low-more owned pre b marks (w 0 (omega arith)).1 (w 0 (omega arith)).0 n)
    ∙ claim-low (set_bit owned b 1) bs (pre ++ (b ∷ [])) n (length-set_bit owned b 1 ∙ long) (marks-more owned pre b marks (w 0 (omega arith)).1 long) (λ i h. w (suc i) (omega arith)))

-- ---- claims in the map that format makes
fresh-long : length (format_map 512) ≡ 512
fresh-long = length-set_bits (0 ∷ 1 ∷ 2 ∷ []) (zeros 512) 1 ∙ length-replicate {A = ℕ} 512 0

fresh-marks : Marks (format_map 512) []
fresh-marks b l = fresh-bit 512 b (omega arith) ∙ sym (or-false (ltb b 3))

none-twice : (n : ℕ) → least (claimed_twice []) n ≡ n
none-twice n = least-all (claimed_twice []) n (λ i l. tt)

pub marks-is : (cs : List ℕ) → Within 4096 cs → Marks (set_bits (format_map 512) 1 cs) cs
marks-is cs w = claim-marks (format_map 512) cs [] fresh-long fresh-marks w

module _ (cs : List ℕ) (w : Within 4096 cs) (n : ℕ) where
  -- rule 6: the lowest block claimed twice
  pub doubled-is : doubled (format_map 512) cs n ≡ least (claimed_twice cs) n
  doubled-is = ap (doubled (format_map 512) cs) (sym (none-twice n)) ∙ claim-low (format_map 512) cs [] n fresh-long fresh-marks w

  -- rule 7: the bits that differ
  pub differs-is : n ≤ 4096 → (v : View) → least (bit_differs v.map (set_bits (format_map 512) 1 cs)) n ≡ least (bad_bit v cs) n
  unfolding bit_differs
  differs-is small v =
      least-cong (bit_differs v.map (set_bits (format_map 512) 1 cs)) (bad_bit v cs) n
      (λ b l. ap (λ (t : Bool). not (beq (map_bit v.map b) t)) (marks-is cs w b (omega arith)))
