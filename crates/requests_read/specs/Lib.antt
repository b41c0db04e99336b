pub mod Parts
pub mod StationHas
pub mod WrittenRequest
pub mod ManyRequests
pub mod AskedNames
