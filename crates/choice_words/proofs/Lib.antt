mod Rows
mod VolumeRows
