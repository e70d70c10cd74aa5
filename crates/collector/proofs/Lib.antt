pub mod Next
pub mod CallLaws
pub mod RunLaws
pub mod CutLaws
pub mod ValidRuns
