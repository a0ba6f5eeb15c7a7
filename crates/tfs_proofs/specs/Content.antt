-- The content of a file, byte by byte and as its listed blocks in order, and what stands under a name.
use Rattle.std.specs.Prelude.{◌≡◌, refl, Bool, true, false, cond, ℕ, zero, suc, ◌+◌, ◌-◌, ◌*◌, ◌/◌, ◌%◌, ◌≤◌, ◌<◌, List, ◌++◌, length, get_or, take, ltb}
use Rattle.std.proofs.Common.{sym, ap, ◌∙◌, subst, arith, zero-add, suc-mul, div-add-mod', mod-lt, length-take, length-append, ext_get_or, get_or-take, get_or-append-add}
use Rattle.std.proofs.Math.Option.{Option, none, some, map}
use Rattle.std.proofs.Math.ListN.{get_or-append}
use Rattle.lists.specs.Lists.{table, joined}
use Rattle.list_laws.specs.Table.{length-table, get_or-table, table-cong}
use Rattle.tfs_spec.specs.Layout.{BlockSize, slots, need, block, View, view, size, number, slot_of, place, content, contents}
use Rattle.tfs_spec.specs.Consistent.{File, Consistent}
use Rattle.tfs_facts.specs.Sizes.{in-need, in_block, in_image}
use Rattle.tfs_facts.specs.Views.{view-n}
use Rattle.tfs_facts.specs.Stores.{length-block, byte_at}

pub length-content : (B : ℕ) (v : View) (img : List ℕ) (s : ℕ) → length (content B v img s) ≡ size v s
unfolding content
length-content B v img s = length-table (λ p. get_or img (place B v s p) 0) 0 (size v s)

pub content-byte : (B : ℕ) (v : View) (img : List ℕ) (s p : ℕ) → p < size v s → get_or (content B v img s) p 0 ≡ get_or img (place B v s p) 0
unfolding content
content-byte B v img s p l =
    get_or-table (λ p. get_or img (place B v s p) 0) 0 (size v s) p 0 l ∙ ap (λ (q : ℕ). get_or img (place B v s q) 0) (zero-add p)

-- a content whose bytes are made from another's of the same size
pub content-by : (B : ℕ) (v : View) (new img : List ℕ) (s : ℕ) (f : ℕ → ℕ → ℕ) → ((p : ℕ) → p < size v s → get_or new (place B v s p) 0 ≡ f p (get_or img (place B v s p) 0)) → content B v new s ≡ table (λ p. f p (get_or (content B v img s) p 0)) 0 (length (content B v img s))
unfolding content
content-by B v new img s f h =
    table-cong (λ p. get_or new (place B v s p) 0) (λ p. f p (get_or (content B v img s) p 0)) 0 (size v s)
    (λ p a l.
    let k : p < size v s = omega arith in
    h p k ∙ ap (f p) (sym (content-byte B v img s p k)))
    ∙ ap (λ (n : ℕ). table (λ p. f p (get_or (content B v img s) p 0)) 0 n) (sym (length-content B v img s))

-- ---- the listed blocks, one after another
-- a list of parts of one length, joined: its length, and byte r of part j
length-joined : (f : ℕ → List ℕ) (B k d : ℕ) → ((i : ℕ) → k ≤ i → i < k + d → length (f i) ≡ B) → length (joined (table f k d)) ≡ d * B
length-joined f B k zero h = omega arith
length-joined f B k (suc d) h =
    length-append (f k) (joined (table f (suc k) d))
    ∙ omega (arith, h k (omega arith) (omega arith), length-joined f B (suc k) d (λ i a b. h i (omega arith) (omega arith)), suc-mul d B)

joined-byte : (f : ℕ → List ℕ) (B j k d r : ℕ) → ((i : ℕ) → k ≤ i → i < k + d → length (f i) ≡ B) → j < d → r < B → get_or (joined (table f k d)) (j * B + r) 0 ≡ get_or (f (k + j)) r 0
joined-byte f B j k zero r h l m = absurd (omega arith)
joined-byte f B zero k (suc d) r h l m =
    let at : 0 * B + r ≡ r = omega arith in
    ap (λ (q : ℕ). get_or (f k ++ joined (table f (suc k) d)) q 0) at
    ∙ get_or-append (f k) (joined (table f (suc k) d)) 0 r (omega (arith, h k (omega arith) (omega arith)))
    ∙ ap (λ (i : ℕ). get_or (f i) r 0) (omega arith)
joined-byte f B (suc j) k (suc d) r h l m =
    let at : suc j * B + r ≡ length (f k) + (j * B + r) = omega (arith, suc-mul j B, h k (omega arith) (omega arith)) in
    ap (λ (q : ℕ). get_or (f k ++ joined (table f (suc k) d)) q 0) at
    ∙ get_or-append-add (f k) (joined (table f (suc k) d)) (j * B + r) 0
    ∙ joined-byte f B j (suc k) d r (λ i a b. h i (omega arith) (omega arith)) (omega arith) m
    ∙ ap (λ (i : ℕ). get_or (f i) r 0) (omega arith)

-- a file's blocks have room for its size
pub need-enough : (B z : ℕ) → 0 < B → z ≤ need B z * B
unfolding need
need-enough B z pos = omega (arith, div-add-mod' (z + (B - 1)) B, mod-lt (z + (B - 1)) pos)

-- "A file's content is the first size bytes of its listed blocks in order"
pub content-joined : (B : ℕ) → BlockSize B → (img : List ℕ) → Consistent B img → (s : ℕ) → File B (view B img) s → content B (view B img) img s ≡ take (size (view B img) s) (joined (table (λ k. block B img (number (view B img) s k)) 0 (need B (size (view B img) s))))
unfolding place
content-joined B sz img ok s file =
    ext_get_or 0 (content B v img s) (take (size v s) all) (length-content B v img s ∙ sym long)
    (λ p h.
    let l : p < size v s = subst (λ (n : ℕ). p < n) (length-content B v img s) h in
    content-byte B v img s p l
    ∙ byte_at B img (number v s (p / B)) (p % B) (in_block B pos p)
    ∙ ap (λ (k : ℕ). get_or (f k) (p % B) 0) (sym (zero-add (p / B)))
    ∙ sym (joined-byte f B (p / B) 0 (need B (size v s)) (p % B) whole (in-need B pos p (size v s) l) (in_block B pos p))
    ∙ ap (λ (q : ℕ). get_or all q 0) (div-add-mod' p B)
    ∙ sym (get_or-take (size v s) all p 0 l))
  where
    v : View
    v = view B img

    f : ℕ → List ℕ
    f k = block B img (number v s k)

    all : List ℕ
    all = joined (table f 0 (need B (size v s)))

    pos : 0 < B
    pos = omega (arith, sz.large)

    whole : (k : ℕ) → 0 ≤ k → k < 0 + need B (size v s) → length (f k) ≡ B
    whole k a b =
        length-block B img (number v s k)
        (in_image B (number v s k) img (subst (λ (n : ℕ). number v s k < n) (view-n B img) (ok.sound.inside s k file (omega arith)).high))

    long : length (take (size v s) all) ≡ size v s
    long =
        length-take (size v s) all
        ∙ omega (arith, length-joined f B 0 (need B (size v s)) whole, need-enough B (size v s) pos)

-- what stands in a slot
abbrev pub standing : ℕ → View → List ℕ → ℕ → Option (List ℕ)
standing B v img s = cond (ltb s (slots B)) (some (content B v img s)) none

pub contents-at : (B : ℕ) (img nm : List ℕ) → contents B img nm ≡ standing B (view B img) img (slot_of B (view B img) nm)
unfolding contents
contents-at B img nm = refl

-- of an image with the view of another
pub contents-in : (B : ℕ) (new img nm : List ℕ) → view B new ≡ view B img → contents B new nm ≡ standing B (view B img) new (slot_of B (view B img) nm)
contents-in B new img nm e = contents-at B new nm ∙ ap (λ (v : View). standing B v new (slot_of B v nm)) e

pub standing-map : (B : ℕ) (v : View) (new img : List ℕ) (s : ℕ) (g : List ℕ → List ℕ) → content B v new s ≡ g (content B v img s) → standing B v new s ≡ map g (standing B v img s)
standing-map B v new img s g e = go (ltb s (slots B))
  where
    go : (b : Bool) → cond b (some (content B v new s)) none ≡ map g (cond b (some (content B v img s)) none)
    go true = ap some e
    go false = refl
