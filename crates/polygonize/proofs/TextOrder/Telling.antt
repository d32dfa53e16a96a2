-- Rings of the text, a shell first, are told by the polygons of their groups.
use Rattle.std.proofs.Common.{◌≡◌, Bool, true, false, List, [], ◌∷◌, ◌++◌, map, refl, sym, ◌∙◌, ap, subst}
use Rattle.std.specs.Prelude.{All}
use Rattle.std.proofs.lemmas.List.{map-append}
use Rattle.std.proofs.lemmas.List.Elements.{All-cons, All-head, All-nil, All-tail}
use Rattle.geom.specs.declared.point.Pt.{Pt}
use Rattle.geom.specs.Canonical.{Shape, written_rings}
use Rattle.polygonize.specs.Grouped.{Group, members, shape_of, BeginsWithShell, AreGrouped}
use Rattle.polygonize.specs.Told.{told}

module _ {W : Type 0} (hole : W → Bool) (f : W → List Pt) where
  abbrev tell : W → Bool × List Pt
  tell w = (hole w, f w)

  -- the holes before the first shell, and the groups from there on
  record Parted (ws : List W) : Type 0 where
    pub front : List W
    pub groups : List (Group W)
    pub together : front ++ members groups ≡ ws
    pub front_holes : All (λ w. hole w ≡ true) front
    pub shells : All (λ g. hole g.shell ≡ false) groups
    pub holes : All (λ g. All (λ w. hole w ≡ true) g.holes) groups

  one_more : (w : W) (ws : List W) (b : Bool) → hole w ≡ b → Parted ws → Parted (w ∷ ws)
  one_more w ws true e r = record {
    front = w ∷ r.front;
    groups = r.groups;
    together = ap (λ (t : List W). w ∷ t) r.together;
    front_holes = All-cons (λ v. hole v ≡ true) w r.front e r.front_holes;
    shells = r.shells;
    holes = r.holes;
  }
  one_more w ws false e r = record {
    front = [];
    groups = record { shell = w; holes = r.front } ∷ r.groups;
    together = ap (λ (t : List W). w ∷ t) r.together;
    front_holes = All-nil (λ v. hole v ≡ true);
    shells = All-cons (λ g. hole g.shell ≡ false) (record { shell = w; holes = r.front }) r.groups e r.shells;
    holes = All-cons (λ g. All (λ v. hole v ≡ true) g.holes) (record { shell = w; holes = r.front }) r.groups r.front_holes r.holes;
  }

  parted : (ws : List W) → Parted ws
  parted [] = record {
    front = [];
    groups = [];
    together = refl;
    front_holes = All-nil (λ v. hole v ≡ true);
    shells = All-nil (λ g. hole g.shell ≡ false);
    holes = All-nil (λ g. All (λ v. hole v ≡ true) g.holes);
  }
  parted (w ∷ ws) = one_more w ws (hole w) refl (parted ws)

  no_front : (front rest ws : List W) → front ++ rest ≡ ws → All (λ v. hole v ≡ true) front → BeginsWithShell hole ws → front ≡ []
  no_front [] rest ws e h b = refl
  no_front (w ∷ front) rest ws e h b =
      let is_hole : hole w ≡ true = All-head (λ v. hole v ≡ true) w front h in
      let is_shell : hole w ≡ false = subst (BeginsWithShell hole) (sym e) b in
      cc

  pub groups_of : (ws : List W) → BeginsWithShell hole ws → (shapes : List Shape) × AreGrouped hole f ws shapes
  groups_of ws b =
      let r = parted ws in (
        map (shape_of f) r.groups,
        record {
          groups = r.groups;
          together = ap (λ (t : List W). t ++ members r.groups) (sym (no_front r.front (members r.groups) ws r.together r.front_holes b)) ∙ r.together;
          shells = r.shells;
          holes = r.holes;
          are_shapes = refl;
        },
      )

  holes_told : (ws : List W) → All (λ v. hole v ≡ true) ws → map (λ (ring : List Pt). (true, ring)) (map f ws) ≡ map tell ws
  holes_told [] h = refl
  holes_told (w ∷ ws) h =
      ap (λ (b : Bool). (b, f w) ∷ map (λ (ring : List Pt). (true, ring)) (map f ws)) (sym (All-head (λ v. hole v ≡ true) w ws h))
      ∙ ap (λ (t : List (Bool × List Pt)). tell w ∷ t) (holes_told ws (All-tail (λ v. hole v ≡ true) w ws h))

  groups_told : (gs : List (Group W)) → All (λ g. hole g.shell ≡ false) gs → All (λ g. All (λ v. hole v ≡ true) g.holes) gs → told (map (shape_of f) gs) ≡ map tell (members gs)
  groups_told [] s h = refl
  groups_told (g ∷ gs) s h =
      let rest = told (map (shape_of f) gs) in
      ap (λ (b : Bool). (b, f g.shell) ∷ (map (λ (ring : List Pt). (true, ring)) (map f g.holes) ++ rest)) (sym (All-head (λ g. hole g.shell ≡ false) g gs s))
      ∙ ap (λ (t : List (Bool × List Pt)). tell g.shell ∷ (t ++ rest)) (holes_told g.holes (All-head (λ g. All (λ v. hole v ≡ true) g.holes) g gs h))
      ∙ ap (λ (t : List (Bool × List Pt)). tell g.shell ∷ (map tell g.holes ++ t))
      (groups_told gs (All-tail (λ g. hole g.shell ≡ false) g gs s) (All-tail (λ g. All (λ v. hole v ≡ true) g.holes) g gs h))
      ∙ ap (λ (t : List (Bool × List Pt)). tell g.shell ∷ t) (sym (map-append tell g.holes (members gs)))

  pub rings_told : (ws : List W) (shapes : List Shape) → AreGrouped hole f ws shapes → told shapes ≡ map (λ w. (hole w, f w)) ws
  rings_told ws shapes g = ap told g.are_shapes ∙ groups_told g.groups g.shells g.holes ∙ ap (map tell) g.together

  groups_written : (gs : List (Group W)) → written_rings (map (shape_of f) gs) ≡ map f (members gs)
  groups_written [] = refl
  groups_written (g ∷ gs) = ap (λ (t : List (List Pt)). f g.shell ∷ (map f g.holes ++ t)) (groups_written gs) ∙ ap (λ (t : List (List Pt)). f g.shell ∷ t) (sym (map-append f g.holes (members gs)))

  pub rings_written : (ws : List W) (shapes : List Shape) → AreGrouped hole f ws shapes → written_rings shapes ≡ map f ws
  rings_written ws shapes g = ap written_rings g.are_shapes ∙ groups_written g.groups ∙ ap (map f) g.together
