pub mod OnlyFrame
