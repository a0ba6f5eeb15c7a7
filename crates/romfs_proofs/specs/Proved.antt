-- The statements of romfs_spec, proved.
use Rattle.lists.specs.Lists.{part}
use Rattle.romfs_spec.specs.Statements.{Statements}
use Rattle.romfs_proofs.specs.Plain as plain
use Rattle.romfs_proofs.specs.Checked as checked
use Rattle.romfs_proofs.specs.Answered as answered
use Rattle.romfs_proofs.specs.Past.{past-full}

pub statements : Statements
unfolding part
statements =
    record {
      layout-laws = λ s. record {
        padded = plain.padded;
        name-ends = plain.name-ends s;
        name-length = plain.name-length s;
        word_sum = plain.word_sum s;
        file_type = plain.type-is s;
        executable = plain.executable-is s;
        next = plain.next-is s;
        info = plain.info-is s;
        size = plain.size_is s;
        name = plain.name-is s;
        content-at = plain.content-is s;
        end-of = plain.end_is s;
      };
      check-laws = λ s. record {
        accepts = checked.check-accepted s;
        refuses = checked.check-refused s;
        lies = checked.reached-lies s;
        rises = checked.reached-rises s;
        once = checked.reached-once s;
        deep = checked.reached-deep s;
      };
      request-laws = λ s. record {
        find-given = answered.find-given s;
        entry-given = answered.entry-given s;
        length-given = answered.length-given s;
        content-given = answered.content-given s;
        past-full = past-full s;
      };
    }
