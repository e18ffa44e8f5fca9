-- `figures::share_of` meets its contract: a stream has no more pipes than processes, and at most 2,050 steps for each of at most 4,096
-- elements. Assumes nothing.
use mathlib.Core.Path.{refl, sym, ◌∙◌, subst}
use Rattle.lanes.specs.All.{lanes_of}
use Rattle.figures.specs.Shares.{Small, share_is, share_small, sharing_under}
use Rattle.figures.proofs.share_of.Goals as goal

pub fill_lanes-requires : goal.fill_lanes-requires
fill_lanes-requires c = let p = c.requires in record { flowing = p.1; words = p.2; zeros = p.3 }

pub sums_of-sums-requires : goal.sums_of-sums-requires
sums_of-sums-requires c =
    let p = c.requires in
    record { seen = c.fill_lanes.ensures; counted = p.1.counted; small = sharing_under p.0 }

pub shape_of-lanes : goal.shape_of-lanes
shape_of-lanes c =
    c.fill_lanes.ensures.of_lanes.words ∙ sym c.requires.2

pub returns : goal.returns
returns c =
    let p = c.requires in
    let f = c.args.f in
    let e = share_is f.nest f.stream c.sums_of-sums.ensures p.1.flows.flow.hop_is refl refl in
    (e, subst Small (sym e) (share_small p.0), lanes_of refl refl c.fill_lanes.ensures.of_lanes)
