pub mod LentTableLaws
