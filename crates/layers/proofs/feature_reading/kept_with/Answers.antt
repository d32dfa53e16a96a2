use Rattle.std.proofs.Common.{List, [], ◌∷◌, ◌++◌, subst, sym}
use Rattle.std.specs.Prelude.{Option}
use Rattle.geom.specs.declared.point.Pt.{Pt}
use Rattle.layers.specs.FeatureLayers.{AreKept}
use Rattle.layers.proofs.ReadLaws.{kept_snoc}
use Rattle.layers.proofs.feature_reading.kept_with.Goals as goal

pub returns-in-Ok : goal.returns-in-Ok
returns-in-Ok g c = λ texts text kept own.
    subst (λ (ks : List (Option (List (List (List Pt))))). AreKept (texts ++ text ∷ []) ks) (sym c.in-Ok.ensures.items)
    (kept_snoc texts text c.in_ok-list.list.items c.args.features (rw c.in_ok-list.was at kept) own)
