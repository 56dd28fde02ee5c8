use Rattle.std.proofs.Common.{◌≡◌, ℕ, ◌+◌, ◌/◌, ◌%◌, List, [], ◌∷◌, ◌++◌, length, drop, refl, sym, ap, ◌∙◌, arith, rules, append_assoc, length-drop}
use Rattle.writer.specs.Tables.{part_at}
use Rattle.writer.proofs.Writes.{bytes_at, text_at, TextAt, node_at, NodeAt, begun_opening, begun_part, rest_of, closing, closed_part}
use Rattle.writer.proofs.+write.Goals as goal

pub write-requires : goal.write-requires
write-requires t c =
    let T = c.args.table.now in
    let k = c.args.index in
    let xs = c.args.out.now in
    let n : TextAt T k = text_at T k c.requires.lower k (omega arith) c.in-Text.is in
    let h = begun_opening xs c.copy_from_slice.new.self (3 ∷ 0 ∷ []) 2 refl (omega arith) c.copy_from_slice.ensures.after in
    (search rules, (omega arith, (λ j h. c.requires.lower j (omega arith), (omega (arith, ap length (rest_of 2 h refl), length-drop 2 xs), omega (arith, n.size)))))

pub write-end-requires : goal.write-end-requires
write-end-requires t c =
    let T = c.args.table.now in
    let k = c.args.index in
    let xs = c.args.out.now in
    let l = c.in-Node.label in
    let n : NodeAt T k l = node_at T k c.requires.lower k (omega arith) l c.in-Node.is in
    let h = begun_opening xs c.copy_from_slice-in-Node.new.self (1 ∷ l / 256 ∷ l % 256 ∷ []) 3 refl (omega arith) (c.copy_from_slice-in-Node.ensures.after ∙ c.opening.ensures) in
    (search rules, (omega arith, (λ j h. c.requires.lower j (omega arith), (omega (arith, ap length (rest_of 3 h refl), length-drop 3 xs), omega (arith, n.size)))))

pub bounds-out-end : goal.bounds-out-end
bounds-out-end t c =
    let T = c.args.table.now in
    let k = c.args.index in
    let xs = c.args.out.now in
    let l = c.in-Node.label in
    let n : NodeAt T k l = node_at T k c.requires.lower k (omega arith) l c.in-Node.is in
    let z = closing n xs c.copy_from_slice-in-Node.new.self c.write-end.new.out c.write-end.result c.requires.room (c.copy_from_slice-in-Node.ensures.after ∙ c.opening.ensures) c.write-end.ensures.size c.write-end.ensures.front in
    omega (arith, z.opened, z.fits)

pub slice_bounds-write-count-in-Node-2 : goal.slice_bounds-write-count-in-Node-2
slice_bounds-write-count-in-Node-2 t c =
    let T = c.args.table.now in
    let k = c.args.index in
    let xs = c.args.out.now in
    let l = c.in-Node.label in
    let n : NodeAt T k l = node_at T k c.requires.lower k (omega arith) l c.in-Node.is in
    let z = closing n xs c.copy_from_slice-in-Node.new.self c.write-end.new.out c.write-end.result c.requires.room (c.copy_from_slice-in-Node.ensures.after ∙ c.opening.ensures) c.write-end.ensures.size c.write-end.ensures.front in
    omega (arith, z.same, z.fits)

pub slice_bounds-write-start-in-Node-2 : goal.slice_bounds-write-start-in-Node-2
slice_bounds-write-start-in-Node-2 t c =
    let T = c.args.table.now in
    let k = c.args.index in
    let xs = c.args.out.now in
    let l = c.in-Node.label in
    let n : NodeAt T k l = node_at T k c.requires.lower k (omega arith) l c.in-Node.is in
    let z = closing n xs c.copy_from_slice-in-Node.new.self c.write-end.new.out c.write-end.result c.requires.room (c.copy_from_slice-in-Node.ensures.after ∙ c.opening.ensures) c.write-end.ensures.size c.write-end.ensures.front in
    let same = z.same in
    let fits = z.fits in
    search rules

pub write-requires-in-Node : goal.write-requires-in-Node
write-requires-in-Node t c =
    let T = c.args.table.now in
    let k = c.args.index in
    let xs = c.args.out.now in
    let l = c.in-Node.label in
    let n : NodeAt T k l = node_at T k c.requires.lower k (omega arith) l c.in-Node.is in
    let z = closing n xs c.copy_from_slice-in-Node.new.self c.write-end.new.out c.write-end.result c.requires.room (c.copy_from_slice-in-Node.ensures.after ∙ c.opening.ensures) c.write-end.ensures.size c.write-end.ensures.front in
    (search rules, (omega arith, (λ j h. c.requires.lower j (omega arith), (omega (arith, z.left, z.fits), omega (arith, n.size, c.write-end.ensures.size)))))

pub returns-in-Text : goal.returns-in-Text
returns-in-Text t c =
    let T = c.args.table.now in
    let k = c.args.index in
    let xs = c.args.out.now in
    let n : TextAt T k = text_at T k c.requires.lower k (omega arith) c.in-Text.is in
    let h = begun_opening xs c.copy_from_slice.new.self (3 ∷ 0 ∷ []) 2 refl (omega arith) c.copy_from_slice.ensures.after in
    let bs = bytes_at T (part_at T k).rest in
    let all = begun_part bs c.write.new.out 2 (length bs) h refl refl (omega (arith, n.size)) c.write.ensures.front in
    record {
      size = omega (arith, n.size, c.write.ensures.size);
      front = all.is ∙ ap (λ (us : List ℕ). us ++ drop (length us) xs) (sym n.bytes);
    }

pub returns-in-Node : goal.returns-in-Node
returns-in-Node t c =
    let T = c.args.table.now in
    let k = c.args.index in
    let xs = c.args.out.now in
    let l = c.in-Node.label in
    let n : NodeAt T k l = node_at T k c.requires.lower k (omega arith) l c.in-Node.is in
    let z = closing n xs c.copy_from_slice-in-Node.new.self c.write-end.new.out c.write-end.result c.requires.room (c.copy_from_slice-in-Node.ensures.after ∙ c.opening.ensures) c.write-end.ensures.size c.write-end.ensures.front in
    let end = c.write-end.result + 1 in
    let bs = bytes_at T (part_at T k).rest in
    let all = begun_part bs c.write-in-Node.new.out end (length bs) z.begun z.end refl z.fits c.write-in-Node.ensures.front in
    let bytes : closed_part T k l ++ bs ≡ bytes_at T k = append_assoc ((1 ∷ l / 256 ∷ l % 256 ∷ []) ++ bytes_at T (part_at T k).content) (2 ∷ []) bs ∙ sym n.bytes in
    record {
      size = omega (arith, n.size, c.write-end.ensures.size, c.write-in-Node.ensures.size);
      front = all.is ∙ ap (λ (us : List ℕ). us ++ drop (length us) xs) bytes;
    }
