use Rattle.std.proofs.Common.{◌≡◌, length, map, take}
use Rattle.overlay_c.specs.Faces.{texts_in}
use Rattle.overlay_c.proofs.faces.texts_of.Given as goal

abbrev pub invariant-loop-number : goal.invariant-loop-number
invariant-loop-number l = record {
  size : length l.texts ≡ 64;
  same : map (λ t. t.now) (take l.number l.texts) ≡ texts_in (take l.number l.layers);
}
