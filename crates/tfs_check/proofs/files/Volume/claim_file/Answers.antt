use Rattle.std.proofs.Common.{◌≡◌, ℕ, List, ◌≤◌, rules, arith, ap, ◌∙◌}
use Rattle.tfs_spec.specs.Layout.{need, inode_size}
use Rattle.tfs_facts.specs.Sizes.{in_image}
use Rattle.tfs_inode.specs.Wrong.{wrong_size, need-small}
use Rattle.tfs_check.specs.Files.{blocks-le, blocks-ge}
use Rattle.tfs_check.specs.Found.{file-claimed}
use Rattle.tfs_check.proofs.files.Volume.claim_file.Goals as goal

-- the numbers that an inode asks for, whose size is within the limit
asked : (ino : List ℕ) (size count : ℕ) → size ≡ inode_size ino → count ≡ need 512 size → size ≤ 65024 → (count ≡ need 512 (inode_size ino)) × (count ≤ 127)
asked ino size count e f h = (f ∙ ap (need 512) e, omega (arith, f, need-small size h))

pub in_block-ino-requires : goal.in_block-ino-requires
in_block-ino-requires c =
    let v = c.args.self.now in
    in_image 512 _ _ (omega (arith, v.counted))

pub returns-then-size-gt-MAX_SIZE : goal.returns-then-size-gt-MAX_SIZE
returns-then-size-gt-MAX_SIZE c =
    rw (← c.in_block-ino.ensures) (wrong_size _ _ (omega (arith, c.size-size.ensures, c.if-size-gt-MAX_SIZE.true)))

pub spare_wrong-requires : goal.spare_wrong-requires
spare_wrong-requires c =
    let numbers = asked _ _ _ c.size-size.ensures c.blocks_needed-count.ensures c.if-size-gt-MAX_SIZE.false in
    (numbers.0, numbers.1)

pub map_bit-twice-requires : goal.map_bit-twice-requires
map_bit-twice-requires c =
    let v = c.args.self.now in
    (search rules, omega (arith, v.counted, blocks-le v.image.now))

pub set_bit-requires : goal.set_bit-requires
set_bit-requires c =
    let v = c.args.self.now in
    (search rules, omega (arith, v.counted, blocks-le v.image.now))

pub invariant_of-numbers : goal.invariant_of-numbers
invariant_of-numbers c =
    let v = c.args.self.now in
    let numbers = asked _ _ _ c.size-size.ensures c.blocks_needed-count.ensures c.if-size-gt-MAX_SIZE.false in
    record {
      counted = numbers.0;
      few = numbers.1;
      low = omega (arith, v.counted, blocks-ge v.image.now v.formed.long);
      high = omega (arith, v.counted, blocks-le v.image.now);
    }

pub returns : goal.returns
returns c =
    let numbers = asked _ _ _ c.size-size.ensures c.blocks_needed-count.ensures c.if-size-gt-MAX_SIZE.false in
    rw (← c.in_block-ino.ensures)
    (file-claimed _ _ _ _ _ _ _ _ numbers.0 (omega (arith, c.size-size.ensures, c.if-size-gt-MAX_SIZE.false))
    (rw c.if-spare_wrong.false at c.spare_wrong.ensures)
    (rw (c.lower.ensures, c.map_bit-twice.ensures, c.set_bit.ensures) at c.claim.ensures))
