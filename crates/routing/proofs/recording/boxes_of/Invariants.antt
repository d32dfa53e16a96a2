use Rattle.std.proofs.Common.{◌≡◌, take}
use Rattle.routing.specs.Boxes.{boxes_of}
use Rattle.routing.proofs.recording.boxes_of.Given as goal

abbrev pub invariant-loop-pixel : goal.invariant-loop-pixel
invariant-loop-pixel l = l.boxes ≡ boxes_of (take l.pixel-index l.pixels)
