use Rattle.std.proofs.Common.{◌≡◌, ◌⊎◌, inl, inr, refl, set}
use Rattle.std.specs.List.{Contains}
use Rattle.std.proofs.lemmas.List.Elements.{All-contains, All-contains_itself, All-set}
use Rattle.geom.specs.declared.point.Pt.{Pt}
use Rattle.label_sweep.proofs.vertices.hold.Goals as goal

pub returns-then-place-held : goal.returns-then-place-held
returns-then-place-held c = λ w h.
    let held = c.args.held.now in
    let k = c.place_of-place.result in
    let P : Pt → Type 0 = λ t. Contains held t ⊎ (t ≡ c.args.v) in
    All-contains P (set held k c.args.v) w (All-set P held k c.args.v (inr refl) (λ i d l. inl (All-contains_itself held i d l))) h
