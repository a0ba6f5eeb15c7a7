-- The k-th store of a store and of an opening, by the stores of create and write.
use Rattle.std.specs.Prelude.{◌≡◌, refl, ◌≢◌, Bool, not, ◌||◌, ℕ, ◌+◌, ◌-◌, ◌≤◌, ◌<◌, length, get_or, drop, ltb, eqb}
use Rattle.std.proofs.Math.Path.{sym, ap}
use Rattle.std.proofs.Common.{subst, ◌∙◌, arith, length-append, get_or-append-add, drop_at, ltb→lt, lt→ltb, nltb→le, T_not}
use mathlib.Core.List.{List, [], ◌∷◌, ◌++◌, append-nil, append_assoc}
use Rattle.std.proofs.Math.Option.{none, some}
use Rattle.std.proofs.lemmas.List.{replicate-append-replicate}
use Rattle.std.proofs.Math.ListN.{get_or-append}
use Rattle.std.proofs.Math.Dec.{T}
use Rattle.lists.specs.Lists.{zeros}
use Rattle.list_laws.specs.Test.{by-test, cond_yes, cond_no, to-false, or_l, or_r, iff-eq, eqb_of}
use Rattle.tfs_spec.specs.Layout.{BlockSize}
use Rattle.tfs_spec.specs.Consistent.{Consistent}
use Rattle.tfs_spec.specs.Requests.{Answer, done, value, granted, Outcome, refuse, Store, store, create, creates, writes, perform, stores_of, kth, fetch_store, fetch}
use Rattle.tfs_spec.specs.Laws.{Statements}
use Rattle.timing_spec.specs.Timing.{TIMING, standing, fetched, store_room}
use Rattle.timing_proofs.specs.Changes.{write_granted}
use Rattle.timing_proofs.specs.Power.{create-four}

-- ---- a store out of a list
-- whether there is no k-th of n, or no room for it
abbrev pub missing : ℕ → ℕ → ℕ → List ℕ → Bool
missing B n k buf = eqb k 0 || (ltb n k || ltb (length buf) B)

abbrev given : ℕ → List ℕ → Store → List ℕ → Outcome
given B img x buf = record { answer = value x.at; image = img; buffer = x.bytes ++ drop B buf }

module _ (B : ℕ) (img : List ℕ) (xs : List Store) (k : ℕ) (buf : List ℕ) where
  pub fetch-missing : T (missing B (length xs) k buf) → fetch_store B img xs k buf ≡ refuse img buf 32 0
  unfolding fetch_store
  fetch-missing t = cond_yes (missing B (length xs) k buf) _ _ t

  pub fetch-some : T (not (missing B (length xs) k buf)) → fetch_store B img xs k buf ≡ given B img (kth k xs) buf
  unfolding fetch_store
  fetch-some t = cond_no (missing B (length xs) k buf) _ _ t

-- what is not missing
some-k : (B n k : ℕ) (buf : List ℕ) → T (not (missing B n k buf)) → (1 ≤ k) × (k ≤ n) × (B ≤ length buf)
some-k B n k buf t = (
  omega (arith, not-zero),
  omega (arith, not-past),
  omega (arith, not_short),
)
  where
    not-zero : k ≡ 0 → ⊥
    not-zero e = T_not (missing B n k buf) t (or_l (eqb k 0) _ (eqb_of e))

    not-past : n < k → ⊥
    not-past h = T_not (missing B n k buf) t (or_r (eqb k 0) _ (or_l (ltb n k) _ (lt→ltb n k h)))

    not_short : length buf < B → ⊥
    not_short h = T_not (missing B n k buf) t (or_r (eqb k 0) _ (or_r (ltb n k) _ (lt→ltb (length buf) B h)))

-- the one store of a write of the 64 bytes into the file just created
pub filled-block : (book : Statements) (B : ℕ) → BlockSize B → (img : List ℕ) → Consistent B img → (bytes : List ℕ) → length bytes ≡ 64 → T (granted (create B img TIMING 64).answer) → stores_of B (create B img TIMING 64).image (writes TIMING 0 bytes) ++ [] ≡ store (kth 1 (stores_of B img (creates TIMING 64))).at (bytes ++ zeros (B - 64)) ∷ []
filled-block book B sz img ok bytes long g =
    append-nil (stores_of B (create B img TIMING 64).image (writes TIMING 0 bytes))
    ∙ (book.cut-laws B sz img ok).filled TIMING 64 bytes g (omega (arith, long)) (omega (arith, long)) (omega (arith, long, sz.large))
    ∙ ap (λ (n : ℕ). store (kth 1 (stores_of B img (creates TIMING 64))).at (bytes ++ zeros (B - n)) ∷ []) long

module _ (book : Statements) (B : ℕ) (sz : BlockSize B) (img : List ℕ) (ok : Consistent B img) (buf : List ℕ) where
  -- ---- one write: its stores alone
  pub write-block : (old bs : List ℕ) → standing B img ≡ some old → (a : Answer) → T (granted a) → (k : ℕ) → fetch B img (writes TIMING 0 bs) k buf ≡ fetched B img a (writes TIMING 0 bs ∷ []) k buf
  unfolding fetch
  write-block old bs at a g k =
      cond_yes (granted (perform B img (writes TIMING 0 bs)).answer) _ _ (write_granted book B sz img ok old at bs)
      ∙ ap (λ (l : List Store). fetch_store B img l k buf) (sym (append-nil (stores_of B img (writes TIMING 0 bs))))
      ∙ sym (cond_yes (granted a) _ _ g)

  -- ---- a create, then a write
  module _ (at : standing B img ≡ none) (bytes : List ℕ) (long : length bytes ≡ 64) where
    abbrev xs : List Store
    xs = stores_of B img (creates TIMING 64)

    abbrev ys : List Store
    ys = stores_of B (create B img TIMING 64).image (writes TIMING 0 bytes)

    abbrev zs : List Store
    zs = xs ++ (ys ++ [])

    abbrev series : ℕ → Outcome
    series k = fetched B img (store_room B img none) (creates TIMING 64 ∷ writes TIMING 0 bytes ∷ []) k buf

    abbrev first : ℕ → Outcome
    first k = fetch B img (creates TIMING 64) k buf

    abbrev made : Answer
    made = (create B img TIMING 64).answer

    -- refused by create: the same of each
    module _ (n : T (not (granted made))) where
      first-refused : (k : ℕ) → first k ≡ record { answer = made; image = img; buffer = buf }
      unfolding fetch perform
      first-refused k = cond_no (granted made) _ _ n

      room-refused : store_room B img none ≡ made
      room-refused = cond_no (granted made) done made n

      series-refused : (k : ℕ) → series k ≡ record { answer = made; image = img; buffer = buf }
      series-refused k =
          cond_no (granted (store_room B img none)) _ _ (subst (λ (a : Answer). T (not (granted a))) (sym room-refused) n)
          ∙ ap (λ (a : Answer). record { answer = a; image = img; buffer = buf }) room-refused

    module _ (g : T (granted made)) where
      first-granted : (k : ℕ) → first k ≡ fetch_store B img xs k buf
      unfolding fetch perform
      first-granted k = cond_yes (granted made) _ _ g

      series-granted : (k : ℕ) → series k ≡ fetch_store B img zs k buf
      unfolding perform
      series-granted k = cond_yes (granted (store_room B img none)) _ _ (subst (λ (a : Answer). T (granted a)) (sym (cond_yes (granted made) done made g)) tt)

      four : length xs ≡ 4
      four = create-four book B sz img ok at g

      one : ys ++ [] ≡ store (kth 1 xs).at (bytes ++ zeros (B - 64)) ∷ []
      one = filled-block book B sz img ok bytes long g

      five : length zs ≡ 5
      five = length-append xs (ys ++ []) ∙ ap (λ (l : List Store). length xs + length l) one ∙ ap (λ (n : ℕ). n + 1) four

      -- any but the last is create's
      module _ (k : ℕ) (other : k ≢ 5) where
        same-missing : missing B (length xs) k buf ≡ missing B (length zs) k buf
        same-missing =
            let past : ltb (length xs) k ≡ ltb (length zs) k =
            iff-eq (ltb (length xs) k) (ltb (length zs) k) (λ t. lt→ltb (length zs) k (omega (arith, ltb→lt (length xs) k t, four, five, other))) (λ t. lt→ltb (length xs) k (omega (arith, ltb→lt (length zs) k t, four, five))) in
            ap (λ (b : Bool). eqb k 0 || (b || ltb (length buf) B)) past

        earlier : first k ≡ series k
        earlier =
            first-granted k
            ∙ by-test (missing B (length xs) k buf)
            (λ t. fetch-missing B img xs k buf t ∙ sym (fetch-missing B img zs k buf (subst T same-missing t)))
            (λ t.
            fetch-some B img xs k buf t
            ∙ ap (λ (x : Store). given B img x buf) (sym (get_or-append xs (ys ++ []) (store 0 []) (k - 1) (let s = some-k B (length xs) k buf t in omega (arith, s.0, s.1))))
            ∙ sym (fetch-some B img zs k buf (subst (λ (b : Bool). T (not b)) same-missing t)))
            ∙ sym (series-granted k)

      -- the last: the block that create stores first, with the bytes
      last-store : kth 5 zs ≡ store (kth 1 xs).at (bytes ++ zeros (B - 64))
      last-store =
          let place : 5 - 1 ≡ length xs + 0 = omega (arith, four) in
          ap (λ (n : ℕ). get_or zs n (store 0 [])) place ∙ get_or-append-add xs (ys ++ []) 0 (store 0 []) ∙ ap (λ (l : List Store). get_or l 0 (store 0 [])) one

      short-first : ltb (length buf) B ≡ missing B (length xs) 1 buf
      short-first = ap (λ (b : Bool). b || ltb (length buf) B) (sym (to-false (ltb (length xs) 1) (λ t. omega (arith, ltb→lt (length xs) 1 t, four))))

      short-last : ltb (length buf) B ≡ missing B (length zs) 5 buf
      short-last = ap (λ (b : Bool). b || ltb (length buf) B) (sym (to-false (ltb (length zs) 5) (λ t. omega (arith, ltb→lt (length zs) 5 t, five))))

      last-short : T (ltb (length buf) B) → first 1 ≡ series 5
      last-short t =
          first-granted 1 ∙ fetch-missing B img xs 1 buf (subst T short-first t) ∙ sym (fetch-missing B img zs 5 buf (subst T short-last t)) ∙ sym (series-granted 5)

      module _ (t : T (not (ltb (length buf) B))) where
        first-given : first 1 ≡ given B img (kth 1 xs) buf
        first-given = first-granted 1 ∙ fetch-some B img xs 1 buf (subst (λ (b : Bool). T (not b)) short-first t)

        last-given : series 5 ≡ given B img (store (kth 1 xs).at (bytes ++ zeros (B - 64))) buf
        last-given = series-granted 5 ∙ fetch-some B img zs 5 buf (subst (λ (b : Bool). T (not b)) short-last t) ∙ ap (λ (x : Store). given B img x buf) last-store

        -- the bytes laid over the start of a block of zeros
        laid : bytes ++ drop 64 (first 1).buffer ≡ (series 5).buffer
        laid =
            let blank : (kth 1 xs).bytes ≡ zeros B = (book.cut-laws B sz img ok).blank TIMING 64 1 g (omega arith) (omega (arith, (book.number-laws.one B sz 64 (omega arith) (omega (arith, sz.large))).0)) in
            let whole : B ≡ 64 + (B - 64) = omega (arith, sz.large) in
            let split : zeros B ≡ zeros 64 ++ zeros (B - 64) = ap zeros whole ∙ sym (replicate-append-replicate 64 (B - 64) 0) in
            let rest : drop 64 (first 1).buffer ≡ zeros (B - 64) ++ drop B buf =
            ap (λ (o : Outcome). drop 64 o.buffer) first-given
            ∙ ap (λ (l : List ℕ). drop 64 (l ++ drop B buf)) (blank ∙ split)
            ∙ ap (drop 64) (append_assoc (zeros 64) (zeros (B - 64)) (drop B buf))
            ∙ drop_at (zeros 64) (zeros (B - 64) ++ drop B buf) 64 refl in
            ap (λ (l : List ℕ). bytes ++ l) rest ∙ sym (append_assoc bytes (zeros (B - 64)) (drop B buf)) ∙ sym (ap (λ (o : Outcome). o.buffer) last-given)

        last-answer : (first 1).answer ≡ (series 5).answer
        last-answer = ap (λ (o : Outcome). o.answer) first-given ∙ sym (ap (λ (o : Outcome). o.answer) last-given)

    -- ---- whatever create says
    pub new-other : (k : ℕ) → k ≢ 5 → first k ≡ series k
    new-other k other = by-test (granted made) (λ g. earlier g k other) (λ n. first-refused n k ∙ sym (series-refused n k))

    pub new-last : (b : ℕ) → value b ≡ (first 1).answer → (B ≤ length buf) × (value b ≡ (series 5).answer) × (bytes ++ drop 64 (first 1).buffer ≡ (series 5).buffer)
    new-last b e =
        by-test (granted made)
        (λ g. by-test (ltb (length buf) B)
        (λ t. absurd (subst (λ (a : Answer). T (granted a)) (e ∙ ap (λ (o : Outcome). o.answer) (first-granted g 1 ∙ fetch-missing B img xs 1 buf (subst T (short-first g) t))) tt))
        (λ t. (nltb→le (length buf) B t, e ∙ last-answer g t, laid g t)))
        (λ n. absurd (T_not (granted made) n (subst (λ (a : Answer). T (granted a)) (e ∙ ap (λ (o : Outcome). o.answer) (first-refused n 1)) tt)))

    pub new-refused : (a : Answer) → a ≡ (first 1).answer → (T (granted a) → ⊥) → first 1 ≡ series 5
    new-refused a e away =
        by-test (granted made)
        (λ g. by-test (ltb (length buf) B) (last-short g) (λ t. absurd (away (subst (λ (x : Answer). T (granted x)) (sym (e ∙ ap (λ (o : Outcome). o.answer) (first-given g t))) tt))))
        (λ n. first-refused n 1 ∙ sym (series-refused n 5))
