-- What a strip has depends on the lines that reach it alone.
use Rattle.std.proofs.Common.{◌≡◌, ◌∙◌, inl, ℕ, ◌+◌, List, [], ◌∷◌, ◌++◌, true, false, Bool, cond, refl, sym, ap, subst}
use Rattle.std.proofs.lemmas.Bool.{false≢true}
use Rattle.std.proofs.lemmas.List.Elements.{All-contains}
use Rattle.std.specs.Prelude.{◌↔◌, ℤ, Contains, if◌then◌else◌}
use Rattle.geom.specs.declared.point.Pt.{Pt}
use Rattle.geom.specs.declared.segment.Seg.{Seg}
use Rattle.geom.specs.declared.segment.Source.{Source}
use Rattle.geom.specs.declared.segment.Source.TheVariants.{A, B}
use Rattle.geom.specs.Hot.{IsHot}
use Rattle.geom.specs.Order.{IsBefore}
use Rattle.geom.specs.Route.{Meets}
use Rattle.geom.specs.Segments.{neighbours, same_source}
use Rattle.hot_region.proofs.HotLaws.{hot_lines}
use Rattle.hot_region.proofs.ListLaws.{in_filter, in_map}
use Rattle.strips_law.specs.declared.line.Line.{Line}
use Rattle.strips_law.specs.Law.{StripIsLocal}
use Rattle.strips_law.specs.Strips.{AreCountsOf, IsInStrip, at_border, crosses, line_steps, lines_in, reaches, segments_of, strip_at, with_first, with_last}
use Rattle.strips_law.proofs.Columns.{crosses_left, crosses_right, reaches_met}
use Rattle.strips_law.proofs.Parts.{Oriented, RoutesIn, first_oriented, no_part, rest_oriented, same_part}

-- a line that is passed over adds nothing
nothing : {X : Type 0} (t : Bool) (x : X) (xs : List X) → (t ≡ true → ⊥) → (if t then x ∷ [] else []) ++ xs ≡ xs
nothing true x xs h = absurd (h refl)
nothing false x xs h = refl

no_steps : (t : Bool) (xs : List (Pt × Pt)) → (if t then [] else []) ++ xs ≡ xs
no_steps true xs = refl
no_steps false xs = refl

module _ (cuts : List ℤ) (strip : ℕ) (segments near : List Seg) (same_hot : (c : Pt) → strip_at cuts c ≡ strip → IsHot near c ↔ IsHot segments c) where
  -- parts of all the lines, which make what those of some of them make
  record Widened (lines some : List Line) (near_parts : List (List Pt)) : Type 0 where
    pub parts : List (List Pt)
    pub are_parts : RoutesIn (IsInStrip cuts strip) segments lines parts
    pub steps_are : (layer : Source) → line_steps layer some near_parts ≡ line_steps layer lines parts
    pub left_is : at_border cuts strip with_first some near_parts ≡ at_border cuts strip with_first lines parts
    pub right_is : at_border cuts (strip + 1) with_last some near_parts ≡ at_border cuts (strip + 1) with_last lines parts

  one_more : (l : Line) (ls some : List Line) → IsBefore l.segment.a l.segment.b → ((ps : List (List Pt)) → RoutesIn (IsInStrip cuts strip) near some ps → Widened ls some ps)
      → (t : Bool) → reaches cuts strip l.segment ≡ t → (near_parts : List (List Pt)) → RoutesIn (IsInStrip cuts strip) near (cond t (l ∷ some) some) near_parts → Widened (l ∷ ls) (cond t (l ∷ some) some) near_parts
  one_more l ls some o rest true e [] h = absurd h
  one_more l ls some o rest true e (p ∷ ps) h = let r = rest ps h.1 in record {
    parts = p ∷ r.parts;
    are_parts = (same_part (IsInStrip cuts strip) (IsInStrip cuts strip) near segments l.segment p (λ c m. ((λ i. ((same_hot c i.1).0 i.0, i.1)), (λ i. ((same_hot c i.1).1 i.0, i.1)))) h.0, r.are_parts);
    steps_are = λ layer. ap (λ steps. (if same_source l.segment.layer layer then neighbours p else []) ++ steps) (r.steps_are layer);
    left_is = ap (λ os. (if crosses cuts strip l.segment then with_first l p ∷ [] else []) ++ os) r.left_is;
    right_is = ap (λ os. (if crosses cuts (strip + 1) l.segment then with_last l p ∷ [] else []) ++ os) r.right_is;
  }
  one_more l ls some o rest false e near_parts h = let r = rest near_parts h in record {
    parts = [] ∷ r.parts;
    are_parts = (no_part (IsInStrip cuts strip) segments l.segment (λ c m i. absent (reaches_met cuts l.segment o strip c m i)), r.are_parts);
    steps_are = λ layer. r.steps_are layer ∙ sym (no_steps (same_source l.segment.layer layer) (line_steps layer ls r.parts));
    left_is = r.left_is ∙ sym (nothing (crosses cuts strip l.segment) (with_first l []) (at_border cuts strip with_first ls r.parts) (λ k. absent (crosses_left cuts strip l.segment k)));
    right_is = r.right_is ∙ sym (nothing (crosses cuts (strip + 1) l.segment) (with_last l []) (at_border cuts (strip + 1) with_last ls r.parts) (λ k. absent (crosses_right cuts strip l.segment k)));
  }
    where
      absent : reaches cuts strip l.segment ≡ true → ⊥
      absent k = false≢true (sym e ∙ k)

  widened : (lines : List Line) → Oriented lines → (near_parts : List (List Pt)) → RoutesIn (IsInStrip cuts strip) near (lines_in cuts strip lines) near_parts → Widened lines (lines_in cuts strip lines) near_parts
  widened [] o [] h = record { parts = []; are_parts = tt; steps_are = λ layer. refl; left_is = refl; right_is = refl }
  widened [] o (p ∷ ps) h = absurd h
  widened (l ∷ ls) o near_parts h = one_more l ls (lines_in cuts strip ls) (first_oriented l ls o) (widened ls (rest_oriented l ls o)) (reaches cuts strip l.segment) refl near_parts h

pub strip_local : StripIsLocal
strip_local cuts strip lines inner left right o h = record {
  parts = w.parts;
  are_parts = w.are_parts;
  inner_is = subst (λ steps. AreCountsOf steps (line_steps B lines w.parts) inner) (w.steps_are A) (subst (λ steps. AreCountsOf (line_steps A some h.parts) steps inner) (w.steps_are B) h.inner_is);
  left_is = h.left_is ∙ w.left_is;
  right_is = h.right_is ∙ w.right_is;
}
  where
    some : List Line
    some = lines_in cuts strip lines

    -- what meets a pixel of the strip is among those that reach it
    among : (c : Pt) → strip_at cuts c ≡ strip → (s : Seg) → Contains (segments_of lines) s → Meets s c → Contains (segments_of some) s
    among c e s i m =
        let r = (in_map (λ (l : Line). l.segment) lines s).0 i in
        let b : IsBefore s.a s.b = subst (λ (t : Seg). IsBefore t.a t.b) r.2 (All-contains (λ (l : Line). IsBefore l.segment.a l.segment.b) lines r.0 o.oriented r.1) in
        let k : reaches cuts strip r.0.segment ≡ true = subst (λ (t : Seg). reaches cuts strip t ≡ true) (sym r.2) (reaches_met cuts s b strip c m e) in
        (in_map (λ (l : Line). l.segment) some s).1 (r.0, (in_filter (λ (l : Line). reaches cuts strip l.segment) lines r.0).1 (r.1, k), r.2)

    back : (s : Seg) → Contains (segments_of some) s → Contains (segments_of lines) s
    back s i =
        let r = (in_map (λ (l : Line). l.segment) some s).0 i in
        (in_map (λ (l : Line). l.segment) lines s).1 (r.0, ((in_filter (λ (l : Line). reaches cuts strip l.segment) lines r.0).0 r.1).0, r.2)

    same_hot : (c : Pt) → strip_at cuts c ≡ strip → IsHot (segments_of some) c ↔ IsHot (segments_of lines) c
    same_hot c e = (hot_lines (segments_of some) (segments_of lines) c (λ s i m. (s, back s i, inl (refl, refl))), hot_lines (segments_of lines) (segments_of some) c (λ s i m. (s, among c e s i m, inl (refl, refl))))

    w : Widened cuts strip (segments_of lines) (segments_of some) same_hot lines some h.parts
    w = widened cuts strip (segments_of lines) (segments_of some) same_hot lines o.oriented h.parts h.are_parts
