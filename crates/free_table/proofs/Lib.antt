pub mod ChoosingLaws
pub mod ChosenLaws
pub mod ScanTheorem
pub mod TableLaws
pub mod RaisedTable
pub mod LentTableLaws
