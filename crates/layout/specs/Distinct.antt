-- Distinctness (refusal 8).
use Rattle.std.specs.Prelude.{List, Bool, ◌&&◌, eqb}
use Rattle.lists.specs.Tests.{every}
use Rattle.lists.specs.Counting.{fresh}
use Rattle.layout.specs.declared.Object.{Object}
use Rattle.layout.specs.declared.Component.{Component}
use Rattle.layout.specs.Records.{ids_of, records_in}

-- Two object records "name the same target and number".
unfoldable pub same_object : Object → Object → Bool
same_object a b = eqb a.target b.target && eqb a.number b.number

-- "no two components share an id": one test for each component, that its id differs from those before it.
abbrev pub id_tests : List Component → List Bool
id_tests cs = fresh eqb (ids_of cs)

-- "no two object records anywhere in the layout name the same target and number": one test for each object record, that it
-- differs from those before it.
abbrev pub object_tests : List Component → List Bool
object_tests cs = fresh same_object (records_in cs)

-- The rule of distinctness.
unfoldable pub distinct_hold : List Component → Bool
distinct_hold cs = every (id_tests cs) && every (object_tests cs)
