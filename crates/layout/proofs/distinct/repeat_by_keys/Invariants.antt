-- `layout::distinct::repeat_by_keys` meets its contract: outside, the records before `later` differ; inside, the record
-- is asked of those from `earlier` to `later`, or of none if its key equals none of theirs.
use Rattle.std.proofs.Common.{◌≡◌, get_or, take}
use Rattle.std.proofs.Math.Seq.{slice}
use Rattle.lists.specs.Counting.{elem}
use Rattle.lists.proofs.Found.{Fresh}
use Rattle.layout.specs.Records.{no_object}
use Rattle.layout.specs.Distinct.{same_object}
use Rattle.layout.proofs.distinct.repeat_by_keys.Given as goal

abbrev pub invariant-loop-later : goal.invariant-loop-later
invariant-loop-later l = Fresh same_object l.objects l.later

abbrev pub invariant-loop-earlier : goal.invariant-loop-earlier
invariant-loop-earlier l =
    elem same_object (get_or l.objects l.later no_object) (take l.later l.objects)
    ≡ elem same_object (get_or l.objects l.later no_object) (slice l.earlier l.later l.objects)
