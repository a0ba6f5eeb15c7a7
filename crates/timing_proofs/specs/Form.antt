-- The bytes of the timing file, and what is read from them.
use Rattle.std.specs.Prelude.{◌≡◌, refl, ℕ, zero, suc, ◌+◌, ◌*◌, ◌/◌, ◌%◌, ◌<◌, List, [], ◌∷◌, ◌++◌, get_or}
use Rattle.std.proofs.Common.{sym, ◌∙◌, arith, zero-add}
use Rattle.std.proofs.Math.Path.{ap}
use Rattle.std.proofs.Math.ListN.{length}
use Rattle.std.proofs.Math.Seq.{ext_get_or}
use Rattle.lists.specs.Lists.{table, word, bytes4}
use Rattle.list_laws.specs.Table.{get_or-table}
use Rattle.tfs_spec.specs.Consistent.{Bytes, number_at}
use Rattle.tfs_spec.specs.Laws.{Statements}
use Rattle.timing_spec.specs.Timing.{Timing, Fits, pairs, timing_bytes, pair_at, timing_of}
use Rattle.timing_spec.specs.Laws.{FormLaws}

-- ---- two bytes each
pub length_pairs : (ns : List ℕ) → length (pairs ns) ≡ 2 * length ns
length_pairs [] = refl
length_pairs (n ∷ ns) = let e : length (pairs ns) ≡ 2 * length ns = length_pairs ns in omega arith

pair-behind : (a b : ℕ) (l : List ℕ) (p : ℕ) → pair_at (a ∷ b ∷ l) (suc (suc p)) ≡ pair_at l p
pair-behind a b l p = let k : suc (suc p) + 1 ≡ suc (suc (p + 1)) = omega arith in ap (λ (j : ℕ). get_or l p 0 * 256 + get_or (a ∷ b ∷ l) j 0) k

pub pair-at : (ns : List ℕ) (i : ℕ) → get_or ns i 0 < 65536 → pair_at (pairs ns) (2 * i) ≡ get_or ns i 0
pair-at [] i h = refl
pair-at (n ∷ ns) zero h = omega arith
pair-at (n ∷ ns) (suc i) h =
    let k : 2 * suc i ≡ suc (suc (2 * i)) = omega arith in
    ap (pair_at (pairs (n ∷ ns))) k ∙ pair-behind (n / 256 % 256) (n % 256) (pairs ns) (2 * i) ∙ pair-at ns i h

pub pairs-bytes : (ns : List ℕ) → Bytes (pairs ns)
pairs-bytes [] i = omega arith
pairs-bytes (n ∷ ns) zero = omega arith
pairs-bytes (n ∷ ns) (suc zero) = omega arith
pairs-bytes (n ∷ ns) (suc (suc i)) = pairs-bytes ns i

append-bytes : (a b : List ℕ) → Bytes a → Bytes b → Bytes (a ++ b)
append-bytes [] b ha hb i = hb i
append-bytes (x ∷ a) b ha hb zero = ha 0
append-bytes (x ∷ a) b ha hb (suc i) = append-bytes a b (λ j. ha (suc j)) hb i

-- ---- the file: eight bytes, then the values
eight : (a b c d e f g h : ℕ) (l : List ℕ) (p : ℕ) → get_or (a ∷ b ∷ c ∷ d ∷ e ∷ f ∷ g ∷ h ∷ l) (8 + p) 0 ≡ get_or l p 0
eight a b c d e f g h l p = let k : 8 + p ≡ suc (suc (suc (suc (suc (suc (suc (suc p))))))) = omega arith in ap (λ (j : ℕ). get_or (a ∷ b ∷ c ∷ d ∷ e ∷ f ∷ g ∷ h ∷ l) j 0) k

pub word_number : (l : List ℕ) (p : ℕ) → word l p ≡ number_at l p
unfolding word
word_number l p = omega arith

module _ (book : Statements) (t : Timing) (fits : Fits t) where
  pub long : length (timing_bytes t) ≡ 64
  unfolding timing_bytes
  long = let e : length (pairs t.values) ≡ 2 * length t.values = length_pairs t.values in omega (arith, fits.many)

  pub board : number_at (timing_bytes t) 0 ≡ t.board
  unfolding timing_bytes
  board = (book.number-laws.bytes t.board fits.board).1

  pub maker : number_at (timing_bytes t) 4 ≡ t.maker
  unfolding timing_bytes
  maker = (book.number-laws.bytes t.maker fits.maker).1

  value-at : (p : ℕ) → get_or (timing_bytes t) (8 + p) 0 ≡ get_or (pairs t.values) p 0
  unfolding timing_bytes
  value-at p = eight _ _ _ _ _ _ _ _ (pairs t.values) p

  pub pair-in : (i : ℕ) → pair_at (timing_bytes t) (8 + 2 * i) ≡ get_or t.values i 0
  pair-in i =
      let a : get_or (timing_bytes t) (8 + 2 * i) 0 ≡ get_or (pairs t.values) (2 * i) 0 = value-at (2 * i) in
      let b : get_or (timing_bytes t) (8 + 2 * i + 1) 0 ≡ get_or (pairs t.values) (2 * i + 1) 0 = ap (λ (j : ℕ). get_or (timing_bytes t) j 0) (omega arith) ∙ value-at (2 * i + 1) in
      let c : pair_at (pairs t.values) (2 * i) ≡ get_or t.values i 0 = pair-at t.values i (fits.values i) in
      omega arith

  pub value : (i : ℕ) → i < 28 → get_or (timing_bytes t) (8 + 2 * i) 0 * 256 + get_or (timing_bytes t) (9 + 2 * i) 0 ≡ get_or t.values i 0
  value i h = ap (λ (j : ℕ). get_or (timing_bytes t) (8 + 2 * i) 0 * 256 + get_or (timing_bytes t) j 0) (omega arith) ∙ pair-in i

  pub bytes : Bytes (timing_bytes t)
  unfolding timing_bytes
  bytes =
      append-bytes (bytes4 t.board) (bytes4 t.maker ++ pairs t.values) (book.number-laws.bytes t.board fits.board).0
      (append-bytes (bytes4 t.maker) (pairs t.values) (book.number-laws.bytes t.maker fits.maker).0 (pairs-bytes t.values))

  pub back : timing_of (timing_bytes t) ≡ t
  unfolding timing_of
  back =
      let values : table (λ i. pair_at (timing_bytes t) (8 + 2 * i)) 0 28 ≡ t.values =
      ext_get_or 0 (table (λ i. pair_at (timing_bytes t) (8 + 2 * i)) 0 28) t.values (sym fits.many)
      (λ i h. get_or-table (λ i. pair_at (timing_bytes t) (8 + 2 * i)) 0 28 i 0 h ∙ ap (λ (j : ℕ). pair_at (timing_bytes t) (8 + 2 * j)) (zero-add i) ∙ pair-in i) in
      λ i. record { board = (word_number (timing_bytes t) 0 ∙ board) i; maker = (word_number (timing_bytes t) 4 ∙ maker) i; values = values i }

pub form-law : Statements → FormLaws
form-law book = record { long = long book; bytes = bytes book; board = board book; maker = maker book; value = value book; back = back book }
