-- What comparing a file with bytes answers, in the rules' terms.
use Rattle.std.specs.Prelude.{◌≡◌, refl, Bool, false, ◌&&◌, ℕ, Result, Ok, Err, List, ◌++◌, length, get_or, take, drop}
use Rattle.std.proofs.Common.{sym, ap, ◌∙◌, take_at}
use Rattle.std.proofs.lemmas.List.{length-replicate}
use Rattle.lists.specs.Lists.{same_list, zeros, table}
use Rattle.list_laws.specs.Test.{to-false, same-eq}
use Rattle.list_laws.specs.Table.{length-table}
use Rattle.tfs_spec.specs.Layout.{block}
use Rattle.tfs_spec.specs.Requests.{Answer, granted, count_of, transferred, blocks_met, read_file}
use Rattle.tfs_spec.specs.Replays.{read_bytes}
use Rattle.tfs_refusal.specs.declared.Refusal.{Refusal}
use Rattle.tfs_refusal.specs.Refusal.{number}
use Rattle.tfs_runs.specs.Place.{at}
use Rattle.tfs_transfer.specs.declared.Reach.{Reach}
use Rattle.tfs_transfer.specs.Transfer.{Reaches, allowed, read_all}

-- the number of a refusal, 0 where there is none
abbrev pub compared_refusal : Result Bool Refusal → ℕ
compared_refusal (Ok same) = 0
compared_refusal (Err r) = number r

abbrev pub compared_same : Result Bool Refusal → Bool
compared_same (Ok same) = same
compared_same (Err r) = false

-- the read puts r.count bytes into the buffer, by the inode ino
module _ {img : List ℕ} {s o len : ℕ} {r : Reach} (t : Reaches img s o len r) where
  pub answer_is : (read_file 512 img s o (zeros len)).answer ≡ transferred r.count (blocks_met 512 o r.count)
  answer_is = rw length-replicate (allowed t.moves)

  module _ (ino : List ℕ) (e : ino ≡ block 512 img r.inode) where
    abbrev file : ℕ → ℕ
    file p = get_or img (at ino p) 0

    gives : read_bytes (read_file 512 img s o (zeros len)) ≡ table file o r.count
    gives =
        let put : table file o r.count ++ drop r.count (zeros len) ≡ (read_file 512 img s o (zeros len)).buffer = read_all t ino e (zeros len) _ (sym (length-replicate len 0)) refl in
        ap (take (count_of (read_file 512 img s o (zeros len)).answer)) (sym put)
        ∙ ap (λ (x : Answer). take (count_of x) (table file o r.count ++ drop r.count (zeros len))) answer_is
        ∙ take_at (table file o r.count) (drop r.count (zeros len)) r.count (length-table file o r.count)

    compared : (bytes : List ℕ) (same : Bool) → same ≡ same_list bytes (table file o r.count) → same ≡ (granted (read_file 512 img s o (zeros len)).answer && same_list bytes (read_bytes (read_file 512 img s o (zeros len))))
    compared bytes same h =
        h ∙ ap (same_list bytes) (sym gives) ∙ ap (λ (x : Answer). granted x && same_list bytes (read_bytes (read_file 512 img s o (zeros len)))) (sym answer_is)

    pub compare_same : (bytes : List ℕ) (same : Bool) → length bytes ≡ r.count → same ≡ same_list bytes (table file o (length bytes)) → same ≡ (granted (read_file 512 img s o (zeros len)).answer && same_list bytes (read_bytes (read_file 512 img s o (zeros len))))
    compare_same bytes same l e = compared bytes same (e ∙ ap (λ (n : ℕ). same_list bytes (table file o n)) l)

  pub compare_lengths : (bytes : List ℕ) → (length bytes ≡ r.count → ⊥) → false ≡ (granted (read_file 512 img s o (zeros len)).answer && same_list bytes (read_bytes (read_file 512 img s o (zeros len))))
  compare_lengths bytes h =
      let ino : List ℕ = block 512 img r.inode in
      compared ino refl bytes false
      (sym (to-false (same_list bytes (table (file ino refl) o r.count)) (λ t. h (ap length (same-eq bytes (table (file ino refl) o r.count) t) ∙ length-table (file ino refl) o r.count))))
