pub mod FrameCounts
pub mod PictureLaws
pub mod SampleLaws
pub mod ScanStateLaws
pub mod ScannerLaws
pub mod TrackerLaws
