use Rattle.std.proofs.Common.{ap, ◌∙◌, ◌+◌, ◌++◌, ◌∷◌, [], arith, rules, length, FitsSigned, w32, to_z-of_z}
use Rattle.std.proofs.Math.ListN.{set}
use Rattle.box_lanes.specs.Sides.{boxes_of, corners}
use Rattle.box_lanes.proofs.BoxLaws.{box_count, column_put, ordered_put, put_box}
use Rattle.box_lanes.proofs.HullLaws.{held_more}
use Rattle.box_lanes.proofs.boxes.Boxes.push.Goals as goal

pub invariant_of-self-inside : goal.invariant_of-self-inside
invariant_of-self-inside c =
    let s = c.self.inside in
    let r = c.args.rect.now in
    let fx : FitsSigned w32 r.hi.x = search rules in
    let fy : FitsSigned w32 r.hi.y = search rules in
    let gx : FitsSigned w32 r.lo.x = search rules in
    let gy : FitsSigned w32 r.lo.y = search rules in
    let room = ap length c.self.view_is in
    let count = box_count s.left s.bottom s.right s.top s.count in (
      omega (arith, c.requires, room, count),
      (
        column_put _ _ _ s.lefts gx,
        (
          column_put _ _ _ s.bottoms gy,
          (
            column_put _ _ _ s.rights fx,
            (
              column_put _ _ _ s.tops fy,
              (
                ordered_put _ _ _ _ _ c.self.told.0 c.self.told.2 (omega (arith, c.requires, room, count)) gx fx r.wide s.wide,
                (
                  ordered_put _ _ _ _ _ c.self.told.1 c.self.told.3 (omega (arith, c.requires, room, count)) gy fy r.high s.high,
                  (
                    held_more _ _ _ _ _ _ _ r (omega (arith, c.requires, room, count)) c.self.told.0 c.self.told.1 c.self.told.2 c.self.told.3 gx gy fx fy s.held c.widened.ensures.added c.widened.ensures.held,
                    tt,
                  ),
                ),
              ),
            ),
          ),
        ),
      ),
    )

pub returns : goal.returns
returns c =
    let s = c.self.inside in
    let r = c.args.rect.now in
    let fx : FitsSigned w32 r.hi.x = search rules in
    let fy : FitsSigned w32 r.hi.y = search rules in
    let gx : FitsSigned w32 r.lo.x = search rules in
    let gy : FitsSigned w32 r.lo.y = search rules in
    let room = ap length c.self.view_is in
    let count = box_count s.left s.bottom s.right s.top s.count in
    (λ i. boxes_of (set s.left s.count (to_z-of_z gx i)) (set s.bottom s.count (to_z-of_z gy i)) (set s.right s.count (to_z-of_z fx i)) (set s.top s.count (to_z-of_z fy i)) (s.count + 1))
    ∙ put_box s.left s.bottom s.right s.top s.count r.lo.x r.lo.y r.hi.x r.hi.y (omega (arith, c.requires, room, count)) c.self.told.0 c.self.told.1 c.self.told.2 c.self.told.3
    ∙ ap (λ bs. bs ++ corners r ∷ []) c.self.view_is
