-- The rules in their order.
use Rattle.std.specs.Prelude.{◌≡◌, refl, Bool, true, false, not, cond, ℕ, ◌-◌, ◌≤◌, ◌<◌, List, length, take, set, replicate, T, ltb}
use Rattle.std.proofs.Common.{sym, ap, ◌∙◌, take_all, arith, lt-ltb, le-ltb, nltb→le}
use Rattle.list_laws.specs.Least.{least-le}
use Rattle.lists.specs.Lists.{with_bit, least}
use Rattle.tfs_spec.specs.Layout.{blocks, set_bit, set_bits, View, view, view_n}
use Rattle.tfs_spec.specs.Check.{Verdict, consistent, broken, found, too_short, bad_magic, bad_label, bad_slot, bad_inode, claims, claimed_twice, bad_bit, check_view, check}
use Rattle.tfs_dir.specs.Find.{slot_bad, first-bad}
use Rattle.tfs_facts.specs.Views.{view-n}
use Rattle.tfs_facts.specs.FreshMap.{format_map}
use Rattle.tfs_map.specs.Compare.{bit_differs}
use Rattle.tfs_check.specs.Doubled.{doubled}
use Rattle.tfs_check.specs.Files.{Formed, Sized, blocks-le}
use Rattle.tfs_check.specs.Claimed.{claims-all-within}
use Rattle.tfs_check.specs.Owned.{Marks, marks-is, doubled-is, differs-is}

-- a rule by the search for a place that breaks it
pub found-at : (num n p least : ℕ) (rest : Verdict) → p ≡ least → p < n → broken num p ≡ found num n least rest
found-at num n p least rest e h = rw (← e, lt-ltb p n h)

pub found-none : (num n least : ℕ) (rest : Verdict) → n ≤ least → rest ≡ found num n least rest
found-none num n least rest h = rw (le-ltb least n h)

-- rule 6
unfoldable pub twice_verdict : ℕ → View → Verdict
twice_verdict n v = found 6 n (least (claimed_twice (claims 512 v)) n) consistent

-- rule 7
unfoldable pub map_verdict : ℕ → View → Verdict
map_verdict n v = found 7 n (least (bad_bit v (claims 512 v)) n) consistent

-- rules 1 to 5 by what was found, then the rest
abbrev pub in_order : Bool → Bool → Bool → ℕ → ℕ → Verdict → Verdict
in_order short magic label slot inode rest =
    let r5 : Verdict = found 5 25 inode rest in
    let r4 : Verdict = found 4 25 slot r5 in
    let r3 : Verdict = cond label (broken 3 0) r4 in
    let r2 : Verdict = cond magic (broken 2 0) r3 in
    cond short (broken 1 0) r2

-- rules 1 to 6
unfoldable pub claims_verdict : List ℕ → Verdict
claims_verdict img = in_order (ltb (length img) 1536) (bad_magic (view 512 img)) (bad_label (view 512 img)) (least (bad_slot (view 512 img)) 25) (least (bad_inode 512 (view 512 img)) 25) (twice_verdict (blocks 512 img) (view 512 img))

-- a verdict, or where it finds nothing what comes then
abbrev pub then_rules : Verdict → Verdict → Verdict
then_rules consistent later = later
then_rules (broken num p) later = broken num p

cond-then : (b : Bool) (num p : ℕ) (v later : Verdict) → cond b (broken num p) (then_rules v later) ≡ then_rules (cond b (broken num p) v) later
cond-then true num p v later = refl
cond-then false num p v later = refl

order-then : (short magic label : Bool) (slot inode : ℕ) (v later : Verdict) → in_order short magic label slot inode (then_rules v later) ≡ then_rules (in_order short magic label slot inode v) later
order-then short magic label slot inode v later =
    ap (cond short (broken 1 0))
    (ap (cond magic (broken 2 0))
    (ap (cond label (broken 3 0)) (ap (found 4 25 slot) (cond-then (ltb inode 25) 5 inode v later) ∙ cond-then (ltb slot 25) 4 slot _ later)
    ∙ cond-then label 3 0 _ later)
    ∙ cond-then magic 2 0 _ later)
    ∙ cond-then short 1 0 _ later

-- an image as the whole part of itself
pub whole : (img : List ℕ) → take (length img - 0) img ≡ img
whole img = take_all (length img - 0) img (omega arith)

-- rule 7 comes where the first six are kept
pub check-then : (img : List ℕ) → check 512 img ≡ then_rules (claims_verdict img) (map_verdict (blocks 512 img) (view 512 img))
unfolding check too_short check_view claims_verdict twice_verdict map_verdict view view_n
check-then img =
    let n : ℕ = blocks 512 img in
    let v : View = view 512 img in
    let first : Verdict → Verdict = in_order (ltb (length img) 1536) (bad_magic v) (bad_label v) (least (bad_slot v) 25) (least (bad_inode 512 v) 25) in
    let twice : ℕ = least (claimed_twice (claims 512 v)) n in
    ap first (cond-then (ltb twice n) 6 twice consistent (map_verdict n v))
    ∙ order-then (ltb (length img) 1536) (bad_magic v) (bad_label v) (least (bad_slot v) 25) (least (bad_inode 512 v) 25) (twice_verdict n v) (map_verdict n v)

pub check_broken : (img : List ℕ) (num p : ℕ) → broken num p ≡ claims_verdict img → broken num p ≡ check 512 img
check_broken img num p e = sym (check-then img ∙ ap (λ (v : Verdict). then_rules v (map_verdict (blocks 512 img) (view 512 img))) (sym e))

pub check_kept : (img : List ℕ) → consistent ≡ claims_verdict img → check 512 img ≡ map_verdict (blocks 512 img) (view 512 img)
check_kept img e = check-then img ∙ ap (λ (v : Verdict). then_rules v (map_verdict (blocks 512 img) (view 512 img))) (sym e)

-- the first six kept
cond-none : (b : Bool) (num p : ℕ) (v : Verdict) → cond b (broken num p) v ≡ consistent → T (not b) × (v ≡ consistent)
cond-none true num p v e = absurd (let z : ◌≡◌ {A = ℕ} 0 1 = cc in omega arith)
cond-none false num p v e = (tt, e)

found-kept : (num : ℕ) (f : ℕ → Bool) (n : ℕ) (rest : Verdict) → consistent ≡ found num n (least f n) rest → least f n ≡ n
found-kept num f n rest e =
    let (none, rests) = cond-none (ltb (least f n) n) num (least f n) rest (sym e) in
    omega (arith, nltb→le (least f n) n none, least-le f n)

pub claims-kept : (img : List ℕ) → claims_verdict img ≡ consistent → Sized img
unfolding claims_verdict
claims-kept img e =
    let v : View = view 512 img in
    let (long, e1) = cond-none (ltb (length img) 1536) 1 0 _ e in
    let (magic, e2) = cond-none (bad_magic v) 2 0 _ e1 in
    let (label, e3) = cond-none (bad_label v) 3 0 _ e2 in
    let (slot, e4) = cond-none (ltb (least (bad_slot v) 25) 25) 4 _ _ e3 in
    let (inode, e5) = cond-none (ltb (least (bad_inode 512 v) 25) 25) 5 _ _ e4 in
    record {
      long = nltb→le (length img) 1536 long;
      slots = omega (arith, nltb→le (least (bad_slot v) 25) 25 slot, least-le (bad_slot v) 25);
      inodes = omega (arith, nltb→le (least (bad_inode 512 v) 25) 25 inode, least-le (bad_inode 512 v) 25);
    }

-- rule 4 on the directory
pub slots_at : (img : List ℕ) (n : ℕ) → n ≡ blocks 512 img → least (slot_bad n (view 512 img).dir) 25 ≡ least (bad_slot (view 512 img)) 25
slots_at img n e = ap (λ (k : ℕ). least (slot_bad k (view 512 img).dir) 25) (e ∙ sym (view-n 512 img)) ∙ sym (first-bad (view 512 img))

-- rules 6 and 7 from claims in the map that format makes
pub start_map : set (replicate 512 0) 3 7 ≡ format_map 512
unfolding set_bit with_bit
start_map = refl

-- where rule 5 is kept
pub claims_low : (img : List ℕ) (n : ℕ) → Formed img → consistent ≡ found 5 25 (least (bad_inode 512 (view 512 img)) 25) consistent → doubled (format_map 512) (claims 512 (view 512 img)) n ≡ least (claimed_twice (claims 512 (view 512 img))) n
claims_low img n w kept =
    let inodes = found-kept 5 (bad_inode 512 (view 512 img)) 25 consistent kept in
    doubled-is (claims 512 (view 512 img)) (claims-all-within img (record { long = w.long; slots = w.slots; inodes = inodes })) n

module _ (img : List ℕ) (w : Sized img) where
  abbrev cs : List ℕ
  cs = claims 512 (view 512 img)

  -- the map of the claims marks them and blocks 0 to 2
  pub marks-at : Marks (set_bits (format_map 512) 1 cs) cs
  marks-at = marks-is cs (claims-all-within img w)

-- rule 7 where the first six are kept, by the map of the claims
pub kept_long : (img : List ℕ) → claims_verdict img ≡ consistent → 1536 ≤ length img
kept_long img e = (claims-kept img e).long

pub map_bits : (img owned : List ℕ) → claims_verdict img ≡ consistent → owned ≡ set_bits (format_map 512) 1 (claims 512 (view 512 img)) → least (bit_differs (view 512 img).map owned) (blocks 512 img) ≡ least (bad_bit (view 512 img) (claims 512 (view 512 img))) (blocks 512 img)
map_bits img owned e is =
    ap (λ (m : List ℕ). least (bit_differs (view 512 img).map m) (blocks 512 img)) is
    ∙ differs-is (claims 512 (view 512 img)) (claims-all-within img (claims-kept img e)) (blocks 512 img) (blocks-le img) (view 512 img)

-- what the check of rules 5 and 6 goes by
pub ruleset claim_steps = (start_map, claims_low, blocks-le)
