pub mod Paging
pub mod PagingLaws
