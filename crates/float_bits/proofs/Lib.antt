pub mod NanLaws
