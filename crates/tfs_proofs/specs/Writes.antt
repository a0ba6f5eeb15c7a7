-- Lists of writes on any volume whose files lie at known places.
use Rattle.std.specs.Prelude.{◌≡◌, refl, ◌≢◌, ℕ, zero, suc, ◌+◌, ◌-◌, ◌≤◌, ◌<◌, List, [], ◌∷◌, ◌++◌, Bool, cond, ◌&&◌, length, get_or, take, T, leb, ltb, eqb}
use Rattle.std.proofs.Common.{sym, ap, ◌∙◌, append-nil, arith, lt_of_not-le, length-take, get_or-take, eqb→eq, leb→le, ltb→lt, le→leb, lt→ltb, T_not}
use Rattle.std.proofs.Math.Nat.{zero-sub, sub-zero, suc-sub-suc}
use Rattle.std.proofs.Math.Decide.{dec_le}
use Rattle.std.proofs.Math.Dec.{eqb_refl}
use Rattle.lists.specs.Lists.{store_bytes}
use Rattle.list_laws.specs.Test.{by-test, cond_yes, cond_no, and-of, and_l, and_r}
use Rattle.list_laws.specs.Store.{length-store, store_other, store_at, store-join}

-- bytes for the file in a slot, from an offset on
pub record Put : Type 0 where
  pub slot : ℕ
  pub offset : ℕ
  pub bytes : List ℕ

abbrev pub put : ℕ → ℕ → List ℕ → Put
put s o bs = record { slot = s; offset = o; bytes = bs }

-- what writes see of a volume: the size of the file in a slot, 0 where there is none, and where each position lies
pub record Files : Type 0 where
  pub size : ℕ → ℕ
  pub place : ℕ → ℕ → ℕ

-- the bytes that reach the file
abbrev pub effect : Files → Put → List ℕ
effect v w = take (v.size w.slot - w.offset) w.bytes

abbrev pub step : Files → List ℕ → Put → List ℕ
step v img w = store_bytes (v.place w.slot) img w.offset (effect v w)

abbrev pub run : Files → List ℕ → List Put → List ℕ
run v img [] = img
run v img (w ∷ ws) = run v (step v img w) ws

-- whether a write covers position p of the file in slot s
abbrev pub covers : Files → Put → ℕ → ℕ → Bool
covers v w s p = eqb w.slot s && (leb w.offset p && ltb p (w.offset + length (effect v w)))

-- the byte at position p after the writes: what the last that covers it put there, or the old byte
abbrev pub last_of : Files → List Put → ℕ → ℕ → ℕ → ℕ
last_of v [] s p old = old
last_of v (w ∷ ws) s p old = last_of v ws s p (cond (covers v w s p) (get_or w.bytes (p - w.offset) 0) old)

-- no two positions share a place, and each place is inside the image
pub record Laid (v : Files) (len : ℕ) : Type 0 where
  pub inside : (s p : ℕ) → p < v.size s → v.place s p < len
  pub apart : (s p t q : ℕ) → p < v.size s → q < v.size t → v.place s p ≡ v.place t q → (s ≡ t) × (p ≡ q)

pub record Covered (v : Files) (w : Put) (s p : ℕ) : Type 0 where
  pub file : w.slot ≡ s
  pub from : w.offset ≤ p
  pub upto : p < w.offset + length (effect v w)

pub covered : (v : Files) (w : Put) (s p : ℕ) → T (covers v w s p) → Covered v w s p
covered v w s p t =
    let a = and_l (eqb w.slot s) _ t in
    let b = and_r (eqb w.slot s) _ t in
    record {
      file = eqb→eq w.slot s a;
      from = leb→le w.offset p (and_l (leb w.offset p) _ b);
      upto = ltb→lt p (w.offset + length (effect v w)) (and_r (leb w.offset p) _ b);
    }

pub uncovered : (v : Files) (w : Put) (s p : ℕ) → Covered v w s p → T (covers v w s p)
uncovered v w s p c =
    and-of (eqb w.slot s) (leb w.offset p && ltb p (w.offset + length (effect v w))) (rw c.file (eqb_refl s))
    (and-of (leb w.offset p) (ltb p (w.offset + length (effect v w))) (le→leb w.offset p c.from) (lt→ltb p (w.offset + length (effect v w)) c.upto))

module _ (v : Files) where
  pub length-step : (img : List ℕ) (w : Put) → length (step v img w) ≡ length img
  length-step img w = length-store (v.place w.slot) (effect v w) img w.offset

  -- a position that a write covers is one of its file
  pub in-file : (w : Put) (r : ℕ) → w.offset ≤ r → r < w.offset + length (effect v w) → r < v.size w.slot
  in-file w r l u = omega (arith, length-take (v.size w.slot - w.offset) w.bytes)

  step-at : (img : List ℕ) (w : Put) (p : ℕ) → Laid v (length img) → w.offset ≤ p → p < w.offset + length (effect v w) → get_or (step v img w) (v.place w.slot (w.offset + (p - w.offset))) 0 ≡ get_or w.bytes (p - w.offset) 0
  step-at img w p laid l u =
      let k : p < v.size w.slot = in-file w p l u in
      store_at (v.place w.slot) (effect v w) img w.offset (p - w.offset) (omega arith)
      (laid.inside w.slot (w.offset + (p - w.offset)) (omega arith))
      (λ r a b z. (laid.apart w.slot (w.offset + (p - w.offset)) w.slot r (omega arith) (in-file w r a b) z).1)
      ∙ get_or-take (v.size w.slot - w.offset) w.bytes (p - w.offset) 0 (omega arith)

  -- a place that is none of the file's
  pub step_other : (img : List ℕ) (w : Put) (q : ℕ) → ((p : ℕ) → p < v.size w.slot → q ≢ v.place w.slot p) → get_or (step v img w) q 0 ≡ get_or img q 0
  step_other img w q far =
      store_other (v.place w.slot) (effect v w) img w.offset q (λ p l u. far p (in-file w p l u))

  module _ (s p : ℕ) (lt : p < v.size s) where
    step-yes : (img : List ℕ) (w : Put) → Laid v (length img) → Covered v w s p → get_or (step v img w) (v.place s p) 0 ≡ get_or w.bytes (p - w.offset) 0
    step-yes img w laid c =
        let e : w.offset + (p - w.offset) ≡ p = omega (arith, c.from) in
        rw (← c.file) (rw e at (step-at img w p laid c.from c.upto))

    step-no : (img : List ℕ) (w : Put) (r : ℕ) → Laid v (length img) → w.offset ≤ r → r < w.offset + length (effect v w) → v.place s p ≡ v.place w.slot r → Covered v w s p
    step-no img w r laid l u z =
        let e : (s ≡ w.slot) × (p ≡ r) = laid.apart s p w.slot r lt (in-file w r l u) z in
        record { file = sym e.0; from = omega arith; upto = omega arith }

    -- one write at one position
    pub step-byte : (img : List ℕ) (w : Put) → Laid v (length img) → get_or (step v img w) (v.place s p) 0 ≡ cond (covers v w s p) (get_or w.bytes (p - w.offset) 0) (get_or img (v.place s p) 0)
    step-byte img w laid =
        by-test (covers v w s p)
        (λ t.
        rw (cond_yes (covers v w s p) (get_or w.bytes (p - w.offset) 0) (get_or img (v.place s p) 0) t)
        (step-yes img w laid (covered v w s p t)))
        (λ t.
        rw (cond_no (covers v w s p) (get_or w.bytes (p - w.offset) 0) (get_or img (v.place s p) 0) t)
        (store_other (v.place w.slot) (effect v w) img w.offset (v.place s p)
        (λ r l u z. T_not (covers v w s p) t (uncovered v w s p (step-no img w r laid l u z)))))

    pub last-write : (ws : List Put) (img : List ℕ) → Laid v (length img) → get_or (run v img ws) (v.place s p) 0 ≡ last_of v ws s p (get_or img (v.place s p) 0)
    last-write [] img laid = refl
    last-write (w ∷ ws) img laid =
        last-write ws (step v img w) (rw length-step laid) ∙ ap (λ (b : ℕ). last_of v ws s p b) (step-byte img w laid)

  pub rest-kept : (ws : List Put) (img : List ℕ) (q : ℕ) → ((s p : ℕ) → p < v.size s → q ≢ v.place s p) → get_or (run v img ws) q 0 ≡ get_or img q 0
  rest-kept [] img q far = refl
  rest-kept (w ∷ ws) img q far = rest-kept ws (step v img w) q far ∙ step_other img w q (far w.slot)

-- the first k of two lists
pub take-join : (k : ℕ) (b c : List ℕ) → take k (b ++ c) ≡ take k b ++ take (k - length b) c
take-join zero b c = rw zero-sub
take-join (suc k) [] c = rw sub-zero
take-join (suc k) (x ∷ b) c = rw suc-sub-suc (ap (λ (r : List ℕ). x ∷ r) (take-join k b c))

-- two pieces, the second where the count of the first ended
pub step-join : (v : Files) (s o : ℕ) (b c img : List ℕ) → step v (step v img (put s o b)) (put s (o + length (effect v (put s o b))) c) ≡ step v img (put s o (b ++ c))
step-join v s o b c img = elim (dec_le (length b) (v.size s - o)) [ yes l ↦ near l | no l ↦ far (lt_of_not-le l) ]
  where
    near : length b ≤ v.size s - o → step v (step v img (put s o b)) (put s (o + length (take (v.size s - o) b)) c) ≡ step v img (put s o (b ++ c))
    near l =
        let z : length (take (v.size s - o) b) ≡ length b = length-take (v.size s - o) b ∙ omega arith in
        let e : v.size s - (o + length (take (v.size s - o) b)) ≡ v.size s - o - length b = omega arith in
        rw (take-join, e) (store-join (v.place s) (take (v.size s - o) b) (take (v.size s - o - length b) c) img o)

    far : v.size s - o < length b → step v (step v img (put s o b)) (put s (o + length (take (v.size s - o) b)) c) ≡ step v img (put s o (b ++ c))
    far l =
        let z : length (take (v.size s - o) b) ≡ v.size s - o = length-take (v.size s - o) b ∙ omega arith in
        let e : v.size s - (o + length (take (v.size s - o) b)) ≡ 0 = omega arith in
        let f : v.size s - o - length b ≡ 0 = omega arith in
        rw (take-join, e, f, append-nil)
