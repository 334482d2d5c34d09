pub mod KindsStay
