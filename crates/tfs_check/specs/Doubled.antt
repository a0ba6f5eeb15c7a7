-- Blocks claimed in a map that has a bit for each.
use Rattle.std.specs.Prelude.{◌≡◌, Bool, cond, ℕ, ◌+◌, min, List, [], ◌∷◌, ◌++◌}
use Rattle.std.proofs.Math.Path.{refl, sym, ap}
use Rattle.std.proofs.Common.{◌∙◌, add-one, arith}
use Rattle.lists.specs.Lists.{table}
use Rattle.list_laws.specs.Table.{table_more}
use Rattle.tfs_spec.specs.Layout.{map_bit, set_bit, set_bits, need, inode_size, inode_number}
use Rattle.tfs_map.specs.Bits.{bits-more}
use Rattle.tfs_inode.specs.Claims.{claim_list}

-- the lower of b and low where b is claimed twice, else low
abbrev pub lower_of : Bool → ℕ → ℕ → ℕ
lower_of twice b low = cond twice (min b low) low

-- the lowest of low and the blocks that are marked when their turn comes; each is marked then
unfoldable pub doubled : List ℕ → List ℕ → ℕ → ℕ
doubled map [] low = low
doubled map (b ∷ bs) low = doubled (set_bit map b 1) bs (lower_of (map_bit map b) b low)

pub doubled-none : (map : List ℕ) (low : ℕ) → doubled map [] low ≡ low
unfolding doubled
doubled-none map low = refl

pub doubled-next : (map : List ℕ) (b : ℕ) (bs : List ℕ) (low : ℕ) → doubled map (b ∷ bs) low ≡ doubled (set_bit map b 1) bs (lower_of (map_bit map b) b low)
unfolding doubled
doubled-next map b bs low = refl

pub doubled-append : (map xs ys : List ℕ) (low : ℕ) → doubled map (xs ++ ys) low ≡ doubled (set_bits map 1 xs) ys (doubled map xs low)
unfolding doubled
doubled-append map [] ys low = refl
doubled-append map (x ∷ xs) ys low = doubled-append (set_bit map x 1) xs ys (lower_of (map_bit map x) x low)

-- one block more
doubled-last : (map bs : List ℕ) (b low : ℕ) → doubled map (bs ++ (b ∷ [])) low ≡ lower_of (map_bit (set_bits map 1 bs) b) b (doubled map bs low)
unfolding doubled
doubled-last map bs b low = doubled-append map bs (b ∷ []) low

-- ---- the claims of a file, number by number
-- the first k numbers
unfoldable pub numbers_to : List ℕ → ℕ → List ℕ
numbers_to ino k = table (inode_number ino) 0 k

numbers-next : (ino : List ℕ) (k : ℕ) → numbers_to ino (k + 1) ≡ numbers_to ino k ++ (inode_number ino k ∷ [])
unfolding numbers_to
numbers-next ino k =
    let z : 0 + k ≡ k = omega arith in
    ap (table (inode_number ino) 0) (add-one k) ∙ table_more (inode_number ino) 0 k ∙ ap (λ (n : ℕ). table (inode_number ino) 0 k ++ (inode_number ino n ∷ [])) z

module _ (map ino : List ℕ) where
  pub marked-none : map ≡ set_bits map 1 (numbers_to ino 0)
  unfolding numbers_to
  marked-none = refl

  pub twice-none : (low : ℕ) → low ≡ doubled map (numbers_to ino 0) low
  unfolding numbers_to
  twice-none low = sym (doubled-none map low)

  pub marked_next : (k : ℕ) → set_bit (set_bits map 1 (numbers_to ino k)) (inode_number ino k) 1 ≡ set_bits map 1 (numbers_to ino (k + 1))
  marked_next k = sym (ap (set_bits map 1) (numbers-next ino k) ∙ bits-more map 1 (numbers_to ino k) (inode_number ino k))

  pub twice-next : (k low : ℕ) → lower_of (map_bit (set_bits map 1 (numbers_to ino k)) (inode_number ino k)) (inode_number ino k) (doubled map (numbers_to ino k) low) ≡ doubled map (numbers_to ino (k + 1)) low
  twice-next k low = sym (ap (λ (l : List ℕ). doubled map l low) (numbers-next ino k) ∙ doubled-last map (numbers_to ino k) (inode_number ino k) low)

  -- and the inode's own block before them
  pub marked_all : (b k : ℕ) → k ≡ need 512 (inode_size ino) → set_bits (set_bit map b 1) 1 (numbers_to ino k) ≡ set_bits map 1 (claim_list b ino)
  unfolding numbers_to claim_list
  marked_all b k e = ap (λ (n : ℕ). set_bits (set_bit map b 1) 1 (table (inode_number ino) 0 n)) e

  pub twice-all : (b k low : ℕ) → k ≡ need 512 (inode_size ino) → doubled (set_bit map b 1) (numbers_to ino k) (lower_of (map_bit map b) b low) ≡ doubled map (claim_list b ino) low
  unfolding numbers_to claim_list doubled
  twice-all b k low e = ap (λ (n : ℕ). doubled (set_bit map b 1) (table (inode_number ino) 0 n) (lower_of (map_bit map b) b low)) e
