-- The directory's searches, and what they are in the rules.
use Rattle.std.specs.Prelude.{◌≡◌, refl, Bool, not, ◌&&◌, ◌||◌, ℕ, ◌<◌, List, ltb, is_some, IfSome}
use Rattle.std.specs.Option.{unwrap_or}
use Rattle.std.specs.Prelude.{Option}
use Rattle.std.specs.declared.option.Option.TheVariants.{None, Some}
use Rattle.std.proofs.Common.{sym, arith}
use borrow.Author.Tests.{lt-ltb, le-ltb}
use Rattle.lists.specs.Lists.{least}
use Rattle.tfs_spec.specs.Layout.{slot, slot_name, slot_free, slot_used, same_name, View, free, used, name, slot_of, free_slot}
use Rattle.tfs_spec.specs.Check.{repeats, bad_slot}

-- whether slot s is taken, under this name
unfoldable pub slot_holds : List ℕ → List ℕ → ℕ → Bool
slot_holds dir nm s = not (slot_free (slot dir s)) && same_name (slot_name (slot dir s)) nm

-- whether slot s repeats the name of a lower slot
unfoldable pub slot_repeats : List ℕ → ℕ → Bool
slot_repeats dir s = ltb (least (λ t. not (slot_free (slot dir t)) && same_name (slot_name (slot dir t)) (slot_name (slot dir s))) s) s

-- rule 4 of slot s, in a volume of n blocks
unfoldable pub slot_bad : ℕ → List ℕ → ℕ → Bool
slot_bad n dir s = not (slot_free (slot dir s)) && (not (slot_used n (slot dir s)) || slot_repeats dir s)

-- the slot of a name, and the lowest free slot; 25 where there is none
unfoldable pub find_name : List ℕ → List ℕ → ℕ
find_name dir nm = least (λ s. not (slot_free (slot dir s)) && same_name (slot_name (slot dir s)) nm) 25

unfoldable pub find_free : List ℕ → ℕ
find_free dir = least (λ s. slot_free (slot dir s)) 25

-- ---- the same in the rules
pub bad-slot : (v : View) (s : ℕ) → bad_slot v s ≡ slot_bad v.n v.dir s
unfolding bad_slot slot_bad repeats slot_repeats free used name
bad-slot v s = refl

pub first-bad : (v : View) → least (bad_slot v) 25 ≡ least (slot_bad v.n v.dir) 25
first-bad v = λ i. least (λ s. bad-slot v s i) 25

pub slot-of : (v : View) (nm : List ℕ) → slot_of 512 v nm ≡ find_name v.dir nm
unfolding slot_of find_name free name
slot-of v nm = refl

pub free-slot : (v : View) → free_slot 512 v ≡ find_free v.dir
unfolding free_slot find_free free
free-slot v = refl

-- a search found a slot where the number that it tells is below the bound
pub found-below : (r : Option ℕ) (n : ℕ) → IfSome r (λ s. s < n) → is_some r ≡ ltb (unwrap_or r n) n
found-below None n h = sym (le-ltb n n (omega arith))
found-below (Some s) n h = sym (lt-ltb s n h)
