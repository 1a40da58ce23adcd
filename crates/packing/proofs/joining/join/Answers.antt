-- `packing::joining::join` meets its contract. Assumes nothing.
use Rattle.std.proofs.Common.{rules, length, ◌≡◌, refl, sym, ◌∙◌}
use native.Mathlib.Nat.{le_of_eq}
use lib.ListN.{replicate}
use Rattle.packing.proofs.Laws.{two_length, three_parts}
use Rattle.packing.proofs.joining.join.Goals as goal

pub slice_bounds-words-end-3 : goal.slice_bounds-words-end-3
slice_bounds-words-end-3 c =
    let h-long : length c.copy_from_slice.new.self ≡ 8 = search rules in
    let p-long : length c.copy_from_slice-2.new.self ≡ 64 = search rules in
    le_of_eq (sym (two_length (replicate 137 0) c.copy_from_slice.new.self c.copy_from_slice-2.new.self refl h-long p-long))

pub returns : goal.returns
returns c =
    let h = c.copy_from_slice in
    let h-long : length h.new.self ≡ 8 = search rules in
    let p = c.copy_from_slice-2 in
    let p-long : length p.new.self ≡ 64 = search rules in
    let q = c.copy_from_slice-3 in
    let q-long : length q.new.self ≡ 65 = search rules in
    three_parts (replicate 137 0) h.new.self p.new.self refl h-long p-long q.new.self q-long ∙ (cc)
