-- The box in an outline that is answered is in the limit.
use Rattle.std.proofs.Common.{ℕ, List, Option, Some, None, Result, Ok, Err}
use Rattle.std.specs.Prelude.{◌≡◌, [], IfOk, IfSome, MatchOption}
use Rattle.geom.specs.declared.point.Pt.{Pt}
use Rattle.geom.specs.declared.rect.Rect.{Rect}
use Rattle.geom.specs.declared.fault.Fault.{Fault}
use Rattle.geom.specs.Limit.{AreInLimit}
use Rattle.geom.specs.Segments.{layer_steps}
use Rattle.geom.specs.Bounds.{IsBox}
use Rattle.wkt.specs.declared.outline.Outline.{Outline}
use Rattle.wkt.specs.Refusals.{StandsFor}
use Rattle.wkt.proofs.Checks.{Answers}
use Rattle.wkt.proofs.Inside.{box_in, stands_in}

option_in : (text : List ℕ) (rings : List (List Pt)) (b : Option Rect) → StandsFor text rings → MatchOption b (layer_steps rings ≡ []) (IsBox (layer_steps rings)) → IfSome b (λ r. AreInLimit r.lo r.hi)
option_in text rings None h k = tt
option_in text rings (Some r) h k = box_in rings r (stands_in text rings h) k

pub bounds_in : (limit : ℕ) (text : List ℕ) (x : Result Outline Fault) → Answers limit text x → IfOk x (λ outline. IfSome outline.bounds (λ r. AreInLimit r.lo r.hi))
bounds_in limit text (Ok outline) (rings, h, o) = option_in text rings outline.bounds h o.box
bounds_in limit text (Err f) h = tt
