use Rattle.std.proofs.Common.{◌≡◌, ◌≤◌, ◌+◌, All, length, drop, map}
use Rattle.avr_asm.specs.Layout.{layout_from, layout_of}
use Rattle.avr_asm.proofs.LayoutLemmas.{with_addresses}
use Rattle.avr_asm.proofs.layout.lay_out.Given as goal

-- the addresses so far, and those of the lines that are left
abbrev pub invariant-loop-i : goal.invariant-loop-i
invariant-loop-i l = record {
  flash : l.place.address ≤ 65536;
  below : All (λ address. address ≤ 65536) l.addresses.items;
  count : length l.addresses.items ≡ l.i;
  left : with_addresses l.addresses.items (layout_from (l.i + 1) l.place (drop l.i (map (λ line. line.now) l.lines))) ≡ layout_of
      (map (λ line. line.now) l.lines);
}
