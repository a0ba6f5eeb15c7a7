-- What the plan of create says on a consistent volume, and what create leaves by it.
use Rattle.std.specs.Prelude.{◌≡◌, true, false, cond, Option, None, Some, ℕ, ◌+◌, ◌≤◌, ◌<◌, List, ◌++◌, length, get_or, take}
use Rattle.std.specs.Option.{unwrap_or, is_some}
use Rattle.std.proofs.Common.{ap, ◌∙◌, subst, arith, take_at}
use Rattle.std.proofs.Math.Path.{ap₂}
use borrow.Author.Tests.{lt-ltb, le-ltb}
use Rattle.list_laws.specs.Test.{of-true, to-true}
use Rattle.tfs_spec.specs.Layout.{need, name_allowed, View, view, slot_of, free_slot, free_blocks}
use Rattle.tfs_spec.specs.Check.{consistent, check}
use Rattle.tfs_facts.specs.CheckMeans.{check-means, need-le}
use Rattle.tfs_spec.specs.Requests.{Answer, value, granted, store_all, free_from, chosen, place_stores, create_stores, create_view, create_step}
use Rattle.tfs_facts.specs.Sizes.{size-512}
use Rattle.tfs_facts.specs.Views.{view-n}
use Rattle.tfs_facts.specs.Entries.{allowed}
use Rattle.tfs_facts.specs.Chosen.{CreateGrant, Choice, choice}
use Rattle.tfs_steps.specs.Place.{Placeable, placeable-below}
use Rattle.tfs_change.specs.declared.Plan.{Plan}

-- the lowest free slot, and the blocks for a file of z bytes
pub record Taken (img nm : List ℕ) (z : ℕ) (p : Plan) : Type 0 where
  pub slot : p.slot ≡ free_slot 512 (view 512 img)
  pub low : p.slot < 25
  pub short : length nm ≤ 15
  pub chosen : p.blocks.now ≡ chosen 512 (view 512 img) z
  pub many : length p.blocks.now ≡ 1 + need 512 z
  pub few : length p.blocks.now ≤ 128
  pub high : Placeable p.blocks.now (length img)

-- the answer of create by its plan
abbrev pub plan_told : Plan → Answer
plan_told p = value (get_or p.blocks.now 0 0)

-- a search that finds nothing is at the end
pub none_found : (found : Option ℕ) (s : ℕ) → unwrap_or found 25 ≡ s → is_some found ≡ false → 25 ≤ s
none_found None s e n = omega arith
none_found (Some t) s e n = absurd (let z : ◌≡◌ {A = ℕ} 0 1 = cc in omega arith)

-- a file has 127 content blocks at most
pub want_few : (z : ℕ) → z ≤ 65024 → 1 + need 512 z ≤ 128
want_few z small = omega (arith, need-le 512 z 127 (omega arith) small)

module _ (img nm : List ℕ) (z : ℕ) where
  abbrev v : View
  v = view 512 img

  -- what the tests of create leave
  pub granted_by : name_allowed nm ≡ true → z ≤ 65024 → 25 ≤ slot_of 512 (view 512 img) nm → free_slot 512 (view 512 img) < 25 → 1 + need 512 z ≤ free_blocks (view 512 img) → CreateGrant 512 (view 512 img) nm z
  granted_by named small fresh slot room =
      record { named = of-true (name_allowed nm) named; small = small; fresh = fresh; slot = slot; room = room }

  create_answer : CreateGrant 512 (view 512 img) nm z → value (get_or (chosen 512 (view 512 img) z) 0 0) ≡ create_view 512 (view 512 img) nm z
  unfolding create_view
  create_answer gr =
      rw (to-true (name_allowed nm) gr.named, le-ltb 65024 z gr.small, le-ltb (slot_of 512 v nm) 25 gr.fresh, lt-ltb (free_slot 512 v) 25 gr.slot, le-ltb (free_blocks v) (1 + need 512 z) gr.room)

  -- all passed: the chosen blocks are the front of out
  module _ (gr : CreateGrant 512 (view 512 img) nm z) (passed : check 512 img ≡ consistent) (w : ℕ) (want : w ≡ need 512 z) (out rest : List ℕ) (is : out ≡ take (1 + w) (free_from (view 512 img).map 0 (view 512 img).n) ++ rest) where
    free : Choice 512 (view 512 img) z
    free = choice 512 v ((check-means 512 size-512 img).0 passed).sound z gr.room

    pub front_chosen : take (1 + w) out ≡ chosen 512 (view 512 img) z
    unfolding chosen
    front_chosen =
        let many : length (take (1 + need 512 z) (free_from v.map 0 v.n)) ≡ 1 + need 512 z = free.length-cs in
        rw (is, want) (take_at (take (1 + need 512 z) (free_from v.map 0 v.n)) rest (1 + need 512 z) many)

    pub taken : (p : Plan) → p.slot ≡ free_slot 512 (view 512 img) → p.blocks.now ≡ take (1 + w) out → Taken img nm z p
    taken p lowest front =
        let all : p.blocks.now ≡ chosen 512 (view 512 img) z = front ∙ front_chosen in
        let many : length p.blocks.now ≡ 1 + need 512 z = ap length all ∙ free.length-cs in
        record {
          slot = lowest;
          low = omega (arith, gr.slot);
          short = omega (arith, (allowed nm gr.named).short);
          chosen = all;
          many = many;
          few = omega (arith, want_few z gr.small);
          high =
              rw all
              (placeable-below (chosen 512 v z) img
              (λ i l.
              let p = free.at-cs i l in
              (p.inside.low, subst (λ (x : ℕ). get_or (chosen 512 v z) i 0 < x) (view-n 512 img) p.inside.high)));
        }

    pub answered : (bs : List ℕ) → bs ≡ take (1 + w) out → value (get_or bs 0 0) ≡ create_view 512 (view 512 img) nm z
    answered bs front = ap (λ (l : List ℕ). value (get_or l 0 0)) (front ∙ front_chosen) ∙ create_answer gr

  -- ---- the file placed by the plan
  module _ (p : Plan) (t : Taken img nm z p) where
    pub stores_are : place_stores 512 (view 512 img) p.slot nm z p.blocks.now ≡ create_stores 512 (view 512 img) nm z
    unfolding create_stores
    stores_are = ap₂ (λ (x : ℕ) (l : List ℕ). place_stores 512 v x nm z l) t.slot t.chosen

    pub create_done : plan_told p ≡ create_view 512 (view 512 img) nm z → (after : List ℕ) → after ≡ store_all 512 img (place_stores 512 (view 512 img) p.slot nm z p.blocks.now) → after ≡ (create_step 512 img nm z).image
    create_done told after e =
        let new : List ℕ = store_all 512 img (create_stores 512 v nm z) in
        e ∙ ap (store_all 512 img) stores_are ∙ ap (λ (x : Answer). cond (granted x) new img) told
