-- The statements of tfs_spec, each proved under its own name.
use Rattle.tfs_spec.specs.Laws.{Statements}
use Rattle.std.specs.Prelude.{refl, T}
use Rattle.std.proofs.Common.{sym, ap, ◌∙◌, subst, arith}
use Rattle.tfs_spec.specs.Layout.{label_allowed, view, contents}
use Rattle.tfs_spec.specs.Check.{check}
use Rattle.tfs_spec.specs.Requests.{Answer, granted, format, check_answer, perform}
use Rattle.tfs_spec.specs.Replays.{run}
use Rattle.list_laws.specs.Ones.{ones_cut}
use Rattle.tfs_facts.specs.CheckMeans.{check-means, check-breaks, same-means}
use Rattle.tfs_facts.specs.MapOnes as counted
use Rattle.tfs_facts.specs.Names.{name-refl}
use Rattle.tfs_facts.specs.Sizes.{size-512}
use Rattle.tfs_facts.specs.Total.{adds-up}
use Rattle.tfs_facts.specs.Views.{view-n}
use Rattle.tfs_proofs.specs.Numbers as sizes
use Rattle.tfs_proofs.specs.Bytes as stay
use Rattle.tfs_proofs.specs.Offsets as offsets
use Rattle.tfs_proofs.specs.Content.{length-content, content-joined}
use Rattle.tfs_proofs.specs.Others.{stands, stands-not}
use Rattle.tfs_proofs.specs.Changes.{changed, stays-consistent}
use Rattle.tfs_proofs.specs.Formats.{format-refused, format-grants, format-consistent, format-empty, format-past, format-length, format-head, format-map, format-directory}
use Rattle.tfs_proofs.specs.Reads.{transfer-law, covers}
use Rattle.tfs_proofs.specs.Meets.{blocks-met-law}
use Rattle.tfs_proofs.specs.Grants.{stands_at, fresh-high, label-allowed, name-allowed, format-rule, rule-reply}
use Rattle.tfs_proofs.specs.Replies.{told-done, told-broken, granted-or-refused, faulty, fault-reply, numbered, list-only, fetch-only, keeps, kept, mend-kept, ignored-all, ignored-reads, tail-kept-by, tail-unread-by}
use Rattle.tfs_proofs.specs.IgnoredSteps.{same-after-all, bytes-after-all}
use Rattle.tfs_proofs.specs.Leftovers.{leftovers-ignored, slot-law}
use Rattle.tfs_proofs.specs.Touches.{remove-touches, create-touches}
use Rattle.tfs_proofs.specs.Rooms.{removed-room, created-room, written-room}
use Rattle.tfs_proofs.specs.Histories.{history-law}
use Rattle.tfs_proofs.specs.Mending.{mend-refused, mend-rule}
use Rattle.tfs_proofs.specs.MendLaws.{mend-law}
use Rattle.tfs_proofs.specs.Storing.{store-law}
use Rattle.tfs_proofs.specs.Cutting.{cut-law}
use Rattle.tfs_proofs.specs.Inodes.{inode-law}
use Rattle.tfs_proofs.specs.TraceNumbers.{number-form, number_short, read-number}
use Rattle.tfs_proofs.specs.TraceRecords.{read-string, read-record}
use Rattle.tfs_proofs.specs.TraceLists as lists
use Rattle.tfs_proofs.specs.TraceLists.{written_read, read-written, read-spoiled, positions, written, refused-33, written_all, numbers_fit}
use Rattle.tfs_proofs.specs.Replayed.{agree, means, replay-stays, recorded-fits, again, any-buffer, joined}
use Rattle.tfs_proofs.specs.Runs.{runs, unnamed-kept}
use Rattle.tfs_proofs.specs.Lines as lines
use Rattle.tfs_proofs.specs.WriteLists.{writes-law, pieces-law}
use Rattle.tfs_proofs.specs.CreateRemove.{back-law}
use Rattle.tfs_proofs.specs.Orders.{orders-law}

pub statements : Statements
unfolding check_answer perform
statements =
    record {
      layout-laws = offsets.layout-laws;
      name-laws = record { same = same-means; itself = name-refl; alike = λ a b t B img. ap (contents B img) ((same-means a b).0 t) };
      number-laws = record {
        large = sizes.large;
        small = sizes.small;
        enough = sizes.enough;
        tight = sizes.tight;
        one = sizes.one;
        base = size-512;
        volume = refl;
        directory = refl;
        inode = refl;
        file = refl;
        bytes = sizes.four_bytes;
      };
      check-laws = λ B sz img.
          let means = check-means B sz img in
          let says = check-breaks B sz img in
          record {
            passes = means;
            grants = ((λ e. means.0 ((told-done (check B img)).0 e)), λ ok. (told-done (check B img)).1 (means.1 ok));
            breaks = says;
            refuses = λ num p.
                ((λ e. (says num p).0 ((told-broken (check B img) num p).0 e)), λ first. (told-broken (check B img) num p).1 ((says num p).1 first));
            faulty = faulty B sz img;
            refused-by-all = fault-reply B sz img;
          };
      refusal-laws = λ B sz img. record {
        numbered = numbered B sz img;
        list-only = list-only B sz img;
        fetch-only = fetch-only B sz img;
        keeps = keeps B img;
        format-keeps = format-refused B img;
        mend-keeps = mend-refused B sz img;
        granted-or-refused = granted-or-refused;
      };
      grant-laws = λ B sz img. record {
        answers = rule-reply B sz img;
        formatting = format-rule B img;
        mending = mend-rule B sz img;
        name-allowed = name-allowed;
        label-allowed = label-allowed;
      };
      content-laws = λ B sz img ok. record {
        long = length-content B (view B img) img;
        file = content-joined B sz img ok;
        named = λ nm s st. stands B img nm s (stands_at B (view B img) nm ok.sound s st) st.file.slot;
        absent = λ nm none. stands-not B img nm (fresh-high B (view B img) nm none);
      };
      change-laws = λ B sz img ok. record { stays = stays-consistent B sz img ok; changes = λ c g. (changed B sz img ok c g).contents };
      touch-laws = λ B sz img ok. record { created = create-touches B sz img ok; removed = remove-touches B sz img ok };
      format-laws = λ B sz img label h l.
          let t : T (label_allowed label) = (label-allowed label).1 l in
          let g : T (granted (format B img label).answer) = subst (λ (a : Answer). T (granted a)) (sym (format-grants sz img label h t)) tt in
          record {
            answer = format-grants sz img label h t;
            consistent = format-consistent sz img label g;
            empty = format-empty sz img label g;
            head = format-head sz img label g;
            map = format-map sz img label g;
            directory = format-directory sz img label g;
            past = format-past sz img label;
            long = format-length sz img label;
          };
      kept_laws = λ B sz img. record {
        kept = kept B sz img;
        mend-kept = mend-kept B sz img;
        ignored = ignored-all B sz img;
        ignored-reads = ignored-reads B sz img;
        ignored-after = same-after-all B sz img;
        bytes_after = bytes-after-all B sz img;
        leftovers = leftovers-ignored B sz img;
        tail-kept = tail-kept-by B sz img;
        tail-unread = tail-unread-by B sz img;
      };
      byte_laws = λ B sz small img bytes. record {
        formatted = stay.format-bytes B sz img bytes;
        created = stay.create-bytes B sz small img bytes;
        removed = stay.remove-bytes B sz img bytes;
        written = stay.write_bytes B sz img bytes;
        read-into = stay.read-bytes B sz img bytes;
        mended = stay.mend-bytes B sz img bytes;
        fetch-into = stay.fetch-bytes B sz small img bytes;
      };
      room-laws = λ B sz img ok. record {
        total = adds-up B sz img ok ∙ view-n B img;
        freed = removed-room B sz img ok;
        taken = created-room B sz img ok;
        written = written-room B sz img ok;
      };
      count-laws = record {
        starts = counted.starts;
        cut = ones_cut;
        whole = λ map w n small. counted.whole map small w n;
        by-words = λ map n small. counted.by-words map small n;
        others = counted.others;
      };
      transfer-laws = transfer-law;
      blocks-met-laws = blocks-met-law;
      history-laws = history-law;
      mend-laws = mend-law;
      store-laws = store-law;
      cut-laws = cut-law;
      inode-laws = inode-law;
      slot_laws = slot-law;
      trace-laws = record {
        example = lists.example;
        number-form = number-form;
        number_short = number_short;
        read-number = read-number;
        read-string = read-string;
        read-record = read-record;
        written_read = written_read;
        read-written = read-written;
        read-spoiled = read-spoiled;
        positions = positions;
        written = written;
        refused-33 = refused-33;
        written_all = written_all;
        numbers_fit = numbers_fit;
      };
      line-laws = record { example = lines.example; decimal-form = lines.decimal-form };
      replay-laws = λ B sz img. record {
        means = means B sz img;
        agree = λ c e fits. agree c e fits (run B img c);
        stays = replay-stays B sz img;
        again = again B sz img;
        recordable = λ ok small cs h. recorded-fits B sz small cs h img ok;
        any-buffer = any-buffer B img;
        runs = runs B img;
        others = unnamed-kept B sz img;
        joined = joined B sz img;
      };
      request-laws = λ B sz img ok. record {
        writes = writes-law B (omega (arith, sz.large)) img ((check-means B sz img).1 ok) ok.sound;
        covers = covers B img;
        pieces = λ nm o bs. pieces-law B (omega (arith, sz.large)) nm bs o img ((check-means B sz img).1 ok) ok.sound;
        back = back-law B sz img ok;
        orders = orders-law B sz img ok;
      };
    }
