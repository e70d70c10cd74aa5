-- `listing::list` meets its contract: as much of the text is copied as there is room for.
use Rattle.std.proofs.Common.{ap, ◌∙◌, arith, length, ◌≡◌, min, take}
use Rattle.listing.specs.Listing.{listing_of}
use Rattle.listing.specs.Room.{copied}
use Rattle.listing.proofs.list.Goals as goal

pub returns-clause-value : goal.returns-clause-value
returns-clause-value c =
    let listing = listing_of c.args.input.now in
    let n = c.min-n.result in
    let whole = ap length c.listing_of-text.ensures in
    let least : n ≡ min (length listing) (length c.args.out.now) =
    omega (arith, whole, c.len.ensures.value, c.min-n.ensures) in
    let part = c.copy_from_slice.ensures.after ∙ ap (take n) (c.as_bytes.ensures.value ∙ c.deref.ensures.0
    ∙ c.listing_of-text.ensures) in
    (c.len-2.ensures.value ∙ whole, rw part (copied c.args.out.now listing n least))
