pub mod FrontLook
pub mod ItemCode
pub mod RecordParts
