-- Numbers in groups of seven bits: what is written is read, what is read was written so; and their form in plain facts.
use Rattle.std.specs.Prelude.{◌≡◌, refl, ◌≢◌, ◌↔◌, Bool, true, false, cond, ℕ, zero, suc, ◌+◌, ◌-◌, ◌*◌, ◌/◌, ◌%◌, ◌^◌, ◌≤◌, ◌<◌, List, [], ◌∷◌, ◌++◌, length, get_or, drop, ltb, eqb}
use Rattle.std.proofs.Common.{sym, ap, ap₂, ◌∙◌, subst, arith, pow-suc, lt-ltb, le-ltb, ne_eqb, ltb-true, ltb-false, get_or-drop, drop-drop}
use Rattle.std.proofs.Math.Nat.{one-le-pow}
use Rattle.std.proofs.lemmas.Bool.{eqb-false}
use Rattle.std.proofs.Math.Seq.{drop-append_seam}
use Rattle.tfs_spec.specs.Consistent.{Bytes}
use Rattle.tfs_spec.specs.Traces.{groups, number, Parsed, parsed, malformed, followed, join_groups, read_groups, read_number, worth, NumberForm, StandsAt}
use Rattle.tfs_facts.specs.Forward.{never, same_next, same-what}

groups-low : (f n : ℕ) → n < 128 → groups (suc f) n ≡ n ∷ []
unfolding groups
groups-low f n h = rw (lt-ltb _ _ h)

groups-high : (f n : ℕ) → 128 ≤ n → groups (suc f) n ≡ (n % 128 + 128) ∷ groups f (n / 128)
unfolding groups
groups-high f n h = rw (le-ltb _ _ h)

-- ---- what is written is read
groups-pos : (f m : ℕ) → 1 ≤ m → m < 128 ^ f → 0 < f
groups-pos zero m p h = absurd (omega arith)
groups-pos (suc f) m p h = omega arith

high_lt : (f n : ℕ) → n < 128 ^ suc f → n / 128 < 128 ^ f
high_lt f n h = omega (arith, pow-suc 128 f)

-- groups of n at the head of a list are read as n
abbrev ReadBack : ℕ → ℕ → ℕ → List ℕ → Type 0
ReadBack f at n post = read_groups f at (groups f n ++ post) ≡ parsed n (at + length (groups f n))

back_low : (f at n : ℕ) (post : List ℕ) → n < 128 → ReadBack (suc f) at n post
unfolding read_groups
back_low f at n post h = rw (groups-low f n h, lt-ltb _ _ h)

back-high : (f at n : ℕ) (post : List ℕ) → 128 ≤ n → n < 4294967296 → ReadBack f (at + 1) (n / 128) post → ReadBack (suc f) at n post
unfolding read_groups
back-high f at n post h small ih =
    rw (groups-high f n h, le-ltb (n % 128 + 128) 128 (omega arith), ih, ne_eqb (n / 128) 0 (omega arith), lt-ltb (n / 128 * 128 + (n % 128 + 128 - 128)) 4294967296 (omega arith))
    (ap₂ (λ (v k : ℕ). parsed v k) (omega arith) (omega arith))

back_by : (f at n : ℕ) (post : List ℕ) → n < 128 ^ suc f → n < 4294967296 → (b : Bool) → ltb n 128 ≡ b → ((k : ℕ) → k < 128 ^ f → 0 < f → k < 4294967296 → ReadBack f (at + 1) k post) → ReadBack (suc f) at n post
back_by f at n post h small true q ih = back_low f at n post (ltb-true n 128 q)
back_by f at n post h small false q ih =
    let k : 128 ≤ n = ltb-false n 128 q in
    back-high f at n post k small (ih (n / 128) (high_lt f n h) (groups-pos f (n / 128) (omega arith) (high_lt f n h)) (omega arith))

groups-back : (f at n : ℕ) (post : List ℕ) → n < 128 ^ f → 0 < f → n < 4294967296 → ReadBack f at n post
groups-back zero at n post h pos small = absurd (omega arith)
groups-back (suc f) at n post h pos small = back_by f at n post h small (ltb n 128) refl (λ k p q r. groups-back f (at + 1) k post p q r)

pub number-reads : (n : ℕ) → n < 4294967296 → (t : List ℕ) (at next : ℕ) → StandsAt t at (number n) next → read_number t at ≡ parsed n next
unfolding read_number
number-reads n h t at next s = ap (read_groups 5 at) s.here ∙ groups-back 5 at n (drop next t) (omega arith) (omega arith) h ∙ ap (parsed n) (sym s.ends)

-- ---- what is read was written so
record WrittenSo (f at : ℕ) (l : List ℕ) (n next : ℕ) : Type 0 where
  rest : List ℕ
  small : n < 4294967296
  bytes : l ≡ groups f n ++ rest
  ends : next ≡ at + length (groups f n)

so-low : (f at g n next : ℕ) (l : List ℕ) → g < 128 → parsed g (at + 1) ≡ parsed n next → WrittenSo (suc f) at (g ∷ l) n next
so-low f at g n next l h e =
    let en : g ≡ n = same-what e in
    let ec : at + 1 ≡ next = same_next e in
    let w = groups-low f n (omega arith) in
    record { rest = l; small = omega arith; bytes = rw (w, en); ends = rw w (sym ec) }

so-high : (f at g n v next k : ℕ) (l : List ℕ) → 128 ≤ g → g < 256 → v ≢ 0 → v * 128 + (g - 128) < 4294967296 → parsed (v * 128 + (g - 128)) k ≡ parsed n next → WrittenSo f (at + 1) l v k → WrittenSo (suc f) at (g ∷ l) n next
so-high f at g n v next k l h s z small e ih =
    let en : v * 128 + (g - 128) ≡ n = same-what e in
    let ec : k ≡ next = same_next e in
    let p : 1 ≤ v = positive v z in
    let w = groups-high f n (omega arith) in
    let d : n / 128 ≡ v = omega arith in
    let m : n % 128 + 128 ≡ g = omega arith in
    let o : at + 1 + length (groups f v) ≡ at + suc (length (groups f v)) = omega arith in
    record { rest = ih.rest; small = omega arith; bytes = rw (w, d, m) (ap (λ (x : List ℕ). g ∷ x) ih.bytes); ends = rw (w, d) (sym ec ∙ ih.ends ∙ o) }
  where
    positive : (v : ℕ) → v ≢ 0 → 1 ≤ v
    positive zero z = absurd (z refl)
    positive (suc v) z = omega arith

so-join : (f at g n v next k : ℕ) (l : List ℕ) (zero? small? : Bool) → 128 ≤ g → g < 256 → eqb v 0 ≡ zero? → ltb (v * 128 + (g - 128)) 4294967296 ≡ small? → cond zero? malformed (cond small? (parsed (v * 128 + (g - 128)) k) malformed) ≡ parsed n next → WrittenSo f (at + 1) l v k → WrittenSo (suc f) at (g ∷ l) n next
so-join f at g n v next k l true small? h s z q e ih = absurd (never e)
so-join f at g n v next k l false false h s z q e ih = absurd (never e)
so-join f at g n v next k l false true h s z q e ih = so-high f at g n v next k l h s (eqb-false v 0 z) (ltb-true _ _ q) e ih

so-rest : (f at g n next : ℕ) (l : List ℕ) (x : Parsed ℕ) → 128 ≤ g → g < 256 → followed x (join_groups (g - 128)) ≡ parsed n next → ((v k : ℕ) → x ≡ parsed v k → WrittenSo f (at + 1) l v k) → WrittenSo (suc f) at (g ∷ l) n next
so-rest f at g n next l malformed h s e ih = absurd (never e)
so-rest f at g n next l (parsed v k) h s e ih = so-join f at g n v next k l (eqb v 0) (ltb (v * 128 + (g - 128)) 4294967296) h s refl refl e (ih v k refl)

so-head : (f at g n next : ℕ) (l : List ℕ) (b : Bool) → g < 256 → ltb g 128 ≡ b → cond b (parsed g (at + 1)) (followed (read_groups f (at + 1) l) (join_groups (g - 128))) ≡ parsed n next → ((v k : ℕ) → read_groups f (at + 1) l ≡ parsed v k → WrittenSo f (at + 1) l v k) → WrittenSo (suc f) at (g ∷ l) n next
so-head f at g n next l true s q e ih = so-low f at g n next l (ltb-true g 128 q) e
so-head f at g n next l false s q e ih = so-rest f at g n next l (read_groups f (at + 1) l) (ltb-false g 128 q) s e ih

groups-so : (f at n next : ℕ) (l : List ℕ) → Bytes l → read_groups f at l ≡ parsed n next → WrittenSo f at l n next
unfolding read_groups
groups-so zero at n next l small e = absurd (never e)
groups-so (suc f) at n next [] small e = absurd (never e)
groups-so (suc f) at n next (g ∷ l) small e = so-head f at g n next l (ltb g 128) (small 0) refl e (λ v k q. groups-so f (at + 1) v k l (λ i. small (suc i)) q)

-- what stands behind bs at the head of what follows a position
pub stands : (t : List ℕ) (at next : ℕ) (bs rest : List ℕ) → drop at t ≡ bs ++ rest → next ≡ at + length bs → StandsAt t at bs next
stands t at next bs rest e q = record { here = e ∙ ap (λ (x : List ℕ). bs ++ x) (sym behind); ends = q }
  where
    behind : drop next t ≡ rest
    behind = ap (λ (k : ℕ). drop k t) q ∙ sym (drop-drop (length bs) at t) ∙ ap (drop (length bs)) e ∙ drop-append_seam bs rest

pub number-so : (t : List ℕ) → Bytes t → (at n next : ℕ) → read_number t at ≡ parsed n next → (n < 4294967296) × StandsAt t at (number n) next
unfolding read_number
number-so t small at n next e =
    let w = groups-so 5 at n next (drop at t) (λ i. subst (λ (x : ℕ). x < 256) (sym (get_or-drop at t i 0)) (small (at + i))) e in
    (w.small, stands t at next (number n) w.rest w.bytes w.ends)

pub read-number : (t : List ℕ) → Bytes t → (at n next : ℕ) → (read_number t at ≡ parsed n next) ↔ ((n < 4294967296) × StandsAt t at (number n) next)
read-number t small at n next = (number-so t small at n next, λ w. number-reads n w.0 t at next w.1)

-- ---- the form of a number
-- as NumberForm, of at most f groups
record Form (f n : ℕ) (bs : List ℕ) : Type 0 where
  some : 1 ≤ length bs
  short : length bs ≤ f
  follows : (i : ℕ) → i + 1 < length bs → (128 ≤ get_or bs i 0) × (get_or bs i 0 < 256)
  last : get_or bs (length bs - 1) 0 < 128
  shortest : 1 < length bs → get_or bs (length bs - 1) 0 ≢ 0
  value : worth bs ≡ n

-- the last of a longer list is that of its tail
last-tail : (g h : ℕ) (l : List ℕ) → get_or (g ∷ h ∷ l) (length (g ∷ h ∷ l) - 1) 0 ≡ get_or (h ∷ l) (length (h ∷ l) - 1) 0
last-tail g h l = ap (λ (k : ℕ). get_or (g ∷ h ∷ l) k 0) e ∙ ap (λ (k : ℕ). get_or (h ∷ l) k 0) d
  where
    e : length (g ∷ h ∷ l) - 1 ≡ suc (length l)
    e = omega arith

    d : length l ≡ length (h ∷ l) - 1
    d = omega arith

form-one : (f n : ℕ) → n < 128 → Form (suc f) n (n ∷ [])
form-one f n h = record { some = omega arith; short = omega arith; follows = λ i k. absurd (omega arith); last = h; shortest = λ k. absurd (omega arith); value = omega arith }

-- the last group of a number that is not 0 is not 0
last-nonzero : (f n g : ℕ) (l : List ℕ) → Form f n (g ∷ l) → 1 ≤ n → get_or (g ∷ l) (length (g ∷ l) - 1) 0 ≢ 0
last-nonzero f n g [] w h e = let v : g % 128 + 128 * 0 ≡ n = w.value in let z : g ≡ 0 = e in absurd (omega arith)
last-nonzero f n g (x ∷ l) w h e = w.shortest (omega arith) e

form-more : (f n : ℕ) (l : List ℕ) → 128 ≤ n → Form f (n / 128) l → Form (suc f) n ((n % 128 + 128) ∷ l)
form-more f n [] h w = absurd (omega (arith, w.some))
form-more f n (g ∷ l) h w = record {
  some = omega arith;
  short = omega (arith, w.short);
  follows = follow;
  last = subst (λ (x : ℕ). x < 128) (sym (last-tail (n % 128 + 128) g l)) w.last;
  shortest = λ k e. nonzero (sym (last-tail (n % 128 + 128) g l) ∙ e);
  value = omega (arith, w.value);
}
  where
    follow : (i : ℕ) → i + 1 < length ((n % 128 + 128) ∷ g ∷ l) → (128 ≤ get_or ((n % 128 + 128) ∷ g ∷ l) i 0) × (get_or ((n % 128 + 128) ∷ g ∷ l) i 0 < 256)
    follow zero k = (omega arith, omega arith)
    follow (suc i) k = w.follows i (omega arith)

    nonzero : get_or (g ∷ l) (length (g ∷ l) - 1) 0 ≢ 0
    nonzero e = last-nonzero f (n / 128) g l w (omega arith) e

groups-form : (f n : ℕ) → n < 128 ^ f → 0 < f → Form f n (groups f n)
groups-form zero n h pos = absurd (omega arith)
groups-form (suc f) n h pos = go (ltb n 128) refl (λ p q. groups-form f (n / 128) p q)
  where
    go : (b : Bool) → ltb n 128 ≡ b → (n / 128 < 128 ^ f → 0 < f → Form f (n / 128) (groups f (n / 128))) → Form (suc f) n (groups (suc f) n)
    go true q ih = subst (Form (suc f) n) (sym (groups-low f n (ltb-true n 128 q))) (form-one f n (ltb-true n 128 q))
    go false q ih =
        let k : 128 ≤ n = ltb-false n 128 q in
        subst (Form (suc f) n) (sym (groups-high f n k)) (form-more f n (groups f (n / 128)) k (ih (high_lt f n h) (groups-pos f (n / 128) (omega arith) (high_lt f n h))))

-- groups whose last is not 0 are worth something
worth-pos : (g : ℕ) (l : List ℕ) → get_or (g ∷ l) (length (g ∷ l) - 1) 0 ≢ 0 → get_or (g ∷ l) (length (g ∷ l) - 1) 0 < 128 → 1 ≤ worth (g ∷ l)
worth-pos zero [] z h = absurd (z refl)
worth-pos (suc g) [] z h = let k : suc g < 128 = h in omega arith
worth-pos g (x ∷ l) z h =
    let ih = worth-pos x l (λ e. z (last-tail g x l ∙ e)) (subst (λ (y : ℕ). y < 128) (last-tail g x l) h) in
    omega arith

form-groups : (f n : ℕ) (bs : List ℕ) → Form f n bs → bs ≡ groups f n
form-groups f n [] w = absurd (omega (arith, w.some))
form-groups zero n (g ∷ bs) w = absurd (omega (arith, w.short))
form-groups (suc f) n (g ∷ []) w =
    let v : g % 128 + 128 * 0 ≡ n = w.value in
    let k : g < 128 = w.last in
    let e : g ≡ n = omega arith in
    ap (λ (x : ℕ). x ∷ []) e ∙ sym (groups-low f n (omega arith))
form-groups (suc f) n (g ∷ x ∷ l) w =
    let v : g % 128 + 128 * worth (x ∷ l) ≡ n = w.value in
    let k = w.follows 0 (omega arith) in
    let small : get_or (x ∷ l) (length (x ∷ l) - 1) 0 < 128 = subst (λ (y : ℕ). y < 128) (last-tail g x l) w.last in
    let z : get_or (x ∷ l) (length (x ∷ l) - 1) 0 ≢ 0 = λ e. w.shortest (omega arith) (last-tail g x l ∙ e) in
    let p = worth-pos x l z small in
    let d : worth (x ∷ l) ≡ n / 128 = omega arith in
    let tail : Form f (worth (x ∷ l)) (x ∷ l) = record { some = omega arith; short = omega (arith, w.short); follows = λ i j. w.follows (suc i) (omega arith); last = small; shortest = λ j. z; value = refl } in
    let ih : x ∷ l ≡ groups f (worth (x ∷ l)) = form-groups f (worth (x ∷ l)) (x ∷ l) tail in
    ap₂ (λ (a : ℕ) (b : List ℕ). a ∷ b) (omega arith) (ih ∙ ap (groups f) d) ∙ sym (groups-high f n (omega arith))

fifth-low : (n : ℕ) → n < 4294967296 → (bs : List ℕ) → Form 5 n bs → get_or bs 4 0 ≤ 15
fifth-low n h (a ∷ b ∷ c ∷ d ∷ e ∷ []) w =
    let v : a % 128 + 128 * (b % 128 + 128 * (c % 128 + 128 * (d % 128 + 128 * (e % 128 + 128 * 0)))) ≡ n = w.value in
    let k : e < 128 = w.last in
    omega arith
fifth-low n h (a ∷ b ∷ c ∷ d ∷ e ∷ x ∷ l) w = absurd (omega (arith, w.short))
fifth-low n h (a ∷ b ∷ c ∷ d ∷ []) w = omega arith
fifth-low n h (a ∷ b ∷ c ∷ []) w = omega arith
fifth-low n h (a ∷ b ∷ []) w = omega arith
fifth-low n h (a ∷ []) w = omega arith
fifth-low n h [] w = omega arith

-- groups whose last is not 0 are worth as much as that one at its place
worth-more : (g : ℕ) (l : List ℕ) → get_or (g ∷ l) (length (g ∷ l) - 1) 0 ≢ 0 → get_or (g ∷ l) (length (g ∷ l) - 1) 0 < 128 → 128 ^ length l ≤ worth (g ∷ l)
worth-more g [] z h = worth-pos g [] z h
worth-more g (x ∷ l) z h =
    let ih = worth-more x l (λ e. z (last-tail g x l ∙ e)) (subst (λ (y : ℕ). y < 128) (last-tail g x l) h) in
    omega (arith, pow-suc 128 (length l), ih)

too_many : (p q y : ℕ) → 1 ≤ p → 34359738368 * p ≡ q → q ≤ y → y < 4294967296 → ⊥
too_many p q y h e l s = omega arith

short-of : (n : ℕ) → n < 4294967296 → (bs : List ℕ) → NumberForm n bs → length bs ≤ 5
short-of n h [] w = omega arith
short-of n h (a ∷ []) w = omega arith
short-of n h (a ∷ b ∷ []) w = omega arith
short-of n h (a ∷ b ∷ c ∷ []) w = omega arith
short-of n h (a ∷ b ∷ c ∷ d ∷ []) w = omega arith
short-of n h (a ∷ b ∷ c ∷ d ∷ e ∷ []) w = omega arith
short-of n h (a ∷ b ∷ c ∷ d ∷ e ∷ x ∷ l) w =
    let m = worth-more a (b ∷ c ∷ d ∷ e ∷ x ∷ l) (w.shortest (omega arith)) w.last in
    let p : 1 ≤ 128 ^ length l = one-le-pow (length l) 128 (omega arith) in
    let k : ℕ = length l in
    let v : worth (a ∷ b ∷ c ∷ d ∷ e ∷ x ∷ l) ≡ n = w.value in
    let q : 128 ^ suc (suc (suc (suc (suc k)))) ≤ worth (a ∷ b ∷ c ∷ d ∷ e ∷ x ∷ l) = m in
    let r : 34359738368 * 128 ^ k ≡ 128 ^ suc (suc (suc (suc (suc k)))) = omega (arith, pow-suc 128 (suc (suc (suc (suc k)))), pow-suc 128 (suc (suc (suc k))), pow-suc 128 (suc (suc k)), pow-suc 128 (suc k), pow-suc 128 k) in
    absurd (too_many (128 ^ k) (128 ^ suc (suc (suc (suc (suc k))))) (worth (a ∷ b ∷ c ∷ d ∷ e ∷ x ∷ l)) p r q (subst (λ (y : ℕ). y < 4294967296) (sym v) h))

form-whole : (n : ℕ) → n < 4294967296 → (bs : List ℕ) → NumberForm n bs → Form 5 n bs
form-whole n h bs w = record { some = w.some; short = short-of n h bs w; follows = w.follows; last = w.last; shortest = w.shortest; value = w.value }

number-whole : (n : ℕ) → n < 4294967296 → Form 5 n (number n)
number-whole n h = groups-form 5 n (omega arith) (omega arith)

pub number-form : (n : ℕ) → n < 4294967296 → (bs : List ℕ) → (bs ≡ number n) ↔ NumberForm n bs
number-form n h bs = (λ e. to (subst (Form 5 n) (sym e) (number-whole n h)), λ w. form-groups 5 n bs (form-whole n h bs w))
  where
    to : Form 5 n bs → NumberForm n bs
    to w = record { some = w.some; follows = w.follows; last = w.last; shortest = w.shortest; value = w.value }

pub number_short : (n : ℕ) → n < 4294967296 → (length (number n) ≤ 5) × (get_or (number n) 4 0 ≤ 15)
number_short n h = ((number-whole n h).short, fifth-low n h (number n) (number-whole n h))
